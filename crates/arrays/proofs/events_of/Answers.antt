-- `arrays::events_of` meets its contract. Assumes nothing.
use native.Mathlib.Omega.{arith}
use mathlib.Core.Path.{refl}
use Rattle.records.specs.Memory.{no_event}
use Rattle.arrays.specs.Chances.{events_of}
use Rattle.arrays.proofs.Filling.{filled_none, filled_more, filled_all}
use Rattle.arrays.proofs.events_of.Goals as goal

pub loop-i-init : goal.loop-i-init
loop-i-init c = filled_none _ no_event refl

pub loop-i-preserved : goal.loop-i-preserved
loop-i-preserved c = filled_more _ no_event c.loop-i.invariant (omega arith)

pub returns : goal.returns
unfolding events_of
returns c = filled_all _ no_event c.loop-i.invariant (omega arith)
