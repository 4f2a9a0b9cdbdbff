-- `remaining::marks::mark_all` meets its contract. Assumes nothing.
use mathlib.Core.Path.{refl, ◌∙◌}
use native.Mathlib.Omega.{arith}
use lib.ListN.{length-set}
use Rattle.sets.specs.Words.{set_of}
use Rattle.remaining.proofs.Marking.{at_number, marked_start, marked_step, marked_end, length_two}
use Rattle.remaining.proofs.marks.mark_all.Goals as goal

pub bounds-some-1 : goal.bounds-some-1
bounds-some-1 c = let q = length-set c.args.some.now 0 0 in omega (arith, c.requires.2, q)

pub loop-i-init : goal.loop-i-init
loop-i-init c = (refl, marked_start c.args.nodes.now (set_of c.args.set.now) c.args.some.now c.requires.2)

pub mark_of-requires : goal.mark_of-requires
mark_of-requires c = record { diagram = at_number c.requires.0 (omega (arith, c.requires.0.root_in)); node = omega arith; room = omega (arith, length_two c.args.some.now 0 0 1 1); marks = c.loop-i.invariant.1 }

pub bounds-some-i : goal.bounds-some-i
bounds-some-i c = omega (arith, length_two c.args.some.now 0 0 1 1)

pub loop-i-preserved : goal.loop-i-preserved
loop-i-preserved c = (length-set c.loop-i.some c.loop-i.i c.mark_of.result ∙ c.loop-i.invariant.0, marked_step c.loop-i.invariant.1 (omega (arith, length_two c.args.some.now 0 0 1 1)) c.mark_of.ensures)

pub shape_of-some : goal.shape_of-some
shape_of-some c = c.loop-i.invariant.0 ∙ length_two c.args.some.now 0 0 1 1

pub returns : goal.returns
returns c = marked_end c.loop-i.invariant.1 (omega arith)
