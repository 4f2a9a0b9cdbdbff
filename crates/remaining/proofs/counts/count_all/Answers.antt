-- `remaining::counts::count_all` meets its contract. Assumes nothing.
use mathlib.Core.Path.{refl, ◌∙◌}
use native.Mathlib.Omega.{arith}
use Rattle.sets.specs.Words.{set_of}
use Rattle.remaining.proofs.Marking.{at_number}
use Rattle.remaining.proofs.Counting.{counted_start, counted_step, counted_end}
use Rattle.remaining.proofs.counts.count_all.Goals as goal

pub loop-i-init : goal.loop-i-init
loop-i-init c = (refl, counted_start c.args.nodes.now (set_of c.args.set.now) c.put_many.ensures refl c.put_many-2.ensures refl)

pub count_of-x-requires : goal.count_of-x-requires
count_of-x-requires c = record { diagram = at_number c.requires.0 (omega (arith, c.requires.0.root_in)); node = omega arith; room = omega arith; counts = c.loop-i.invariant.1 }

pub loop-i-preserved : goal.loop-i-preserved
loop-i-preserved c = (c.put_many-in-loop-i.auto.area ∙ c.loop-i.invariant.0, counted_step c.loop-i.invariant.1 c.put_many-in-loop-i.ensures c.count_of-x.ensures)

pub shape_of-below : goal.shape_of-below
shape_of-below c = c.loop-i.invariant.0 ∙ (c.put_many-2.auto.area ∙ c.put_many.auto.area)

pub returns : goal.returns
returns c = counted_end c.loop-i.invariant.1 (omega arith)
