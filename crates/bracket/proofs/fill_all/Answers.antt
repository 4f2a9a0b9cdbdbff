-- `bracket::fill_all` meets its contract. Assumes nothing.
use mathlib.Core.Path.{refl}
use Prim.Native.Nat.{◌-◌}
use native.Mathlib.Omega.{arith}
use Rattle.paper.specs.Limits.{billion}
use Rattle.bracket.proofs.Pass.{ready, filled_start, filled_next}
use Rattle.bracket.proofs.fill_all.Goals as goal

pub loop-i-init : goal.loop-i-init
loop-i-init c = (filled_start 0 _ _ _, filled_start (billion - 1) _ _ _)

pub fill_both-requires-clause-low : goal.fill_both-requires-clause-low
fill_both-requires-clause-low c = ready c.requires.0 0 (omega arith) c.event_of-e.ensures refl refl c.from.ensures (omega arith) (omega arith) (omega arith) c.loop-i.invariant.0

pub fill_both-requires-clause-high : goal.fill_both-requires-clause-high
fill_both-requires-clause-high c = ready c.requires.0 (billion - 1) (omega arith) c.event_of-e.ensures refl refl c.from.ensures (omega arith) (omega arith) (omega arith) c.loop-i.invariant.1

pub loop-i-preserved : goal.loop-i-preserved
loop-i-preserved c = (
  filled_next c.requires.0 0 (omega arith) c.event_of-e.ensures refl refl c.from.ensures (omega arith) (omega arith) (omega arith) c.loop-i.invariant.0 c.fill_both.ensures.low,
  filled_next c.requires.0 (billion - 1) (omega arith) c.event_of-e.ensures refl refl c.from.ensures (omega arith) (omega arith) (omega arith) c.loop-i.invariant.1 c.fill_both.ensures.high,
)
