-- `sidebyside::rest` meets its contract. Assumes nothing.
use Prim.Native.Nat.{◌-◌}
use lib.ListN.{length}
use Rattle.sidebyside.proofs.Walking.{Resting}
use Rattle.sidebyside.proofs.rest.Given as goal

abbrev pub invariant-loop-e : goal.invariant-loop-e
invariant-loop-e l = Resting l.s l.at l.i l.e l.n

abbrev pub decreases-loop-e : goal.decreases-loop-e
decreases-loop-e l = length l.s - l.i
