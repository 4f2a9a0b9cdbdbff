-- `equations::showing::show_ring` meets its contract. Assumes nothing.
use mathlib.Core.Path.{refl}
use Rattle.equations.proofs.Rings.{ring_none, ring_next}
use Rattle.equations.proofs.showing.show_ring.Goals as goal

pub loop-i-init : goal.loop-i-init
loop-i-init c = ring_none c.requires

pub loop-i-preserved : goal.loop-i-preserved
loop-i-preserved c = ring_next c.requires c.loop-i.invariant c.loop-i-test.true refl refl
