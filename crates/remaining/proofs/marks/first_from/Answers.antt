-- `remaining::marks::first_from` meets its contract. Assumes nothing.
use mathlib.Core.Path.{sym, ap, ◌∙◌}
use native.Mathlib.Omega.{arith}
use lib.ListN.{length}
use Rattle.sets.specs.Words.{words, set_of}
use Rattle.sets.proofs.Words.{empty_none}
use Rattle.remaining.proofs.Marking.{at_number, marked_end, by_failed, follow_start, follow_failed, follow_sound, follow_end}
use Rattle.remaining.proofs.marks.first_from.Goals as goal

pub loop-i-init : goal.loop-i-init
loop-i-init c = (ap length c.empty-cut.ensures, follow_start c.requires.some (ap set_of c.empty-cut.ensures ∙ empty_none words))

pub read_node-d-requires : goal.read_node-d-requires
read_node-d-requires c = (at_number c.requires.diagram (omega (arith, c.loop-i.invariant.1.low, c.requires.diagram.root_in)), c.loop-i-test.true)

pub by_failed-requires : goal.by_failed-requires
by_failed-requires c = (c.read_node-d.ensures.few, omega (arith, c.read_node-d.ensures.failed, c.loop-i.invariant.1.low, c.requires.room))

pub slice_bounds-add-end : goal.slice_bounds-add-end
slice_bounds-add-end c = sym c.loop-i.invariant.0

pub add-requires : goal.add-requires
add-requires c = omega (arith, c.loop-i.invariant.0, c.read_node-d.ensures.few)

pub loop-i-smaller-then-by_failed : goal.loop-i-smaller-then-by_failed
loop-i-smaller-then-by_failed c = c.read_node-d.ensures.failed

pub loop-i-preserved-then-by_failed : goal.loop-i-preserved-then-by_failed
loop-i-preserved-then-by_failed c = (c.add.auto.ws ∙ c.loop-i.invariant.0, follow_failed c.loop-i.invariant.1 c.read_node-d.ensures (by_failed c.read_node-d.ensures (marked_end c.requires.marks (omega (arith, c.loop-i.invariant.1.low))) c.by_failed.ensures) c.if-by_failed.true c.add.ensures)

pub loop-i-smaller : goal.loop-i-smaller
loop-i-smaller c = c.read_node-d.ensures.sound

pub loop-i-preserved : goal.loop-i-preserved
loop-i-preserved c = (c.loop-i.invariant.0, follow_sound c.loop-i.invariant.1 c.read_node-d.ensures (by_failed c.read_node-d.ensures (marked_end c.requires.marks (omega (arith, c.loop-i.invariant.1.low))) c.by_failed.ensures) c.if-by_failed.false)

pub returns : goal.returns
returns c = (c.loop-i.invariant.0, follow_end c.loop-i.invariant.1 c.loop-i-test.false)
