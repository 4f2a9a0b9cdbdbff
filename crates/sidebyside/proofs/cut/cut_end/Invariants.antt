-- `sidebyside::cut::cut_end` meets its contract. Assumes nothing.
use Prim.Native.Nat.{◌-◌}
use lib.ListN.{length}
use Rattle.sidebyside.proofs.OneCut.{Ending}
use Rattle.sidebyside.proofs.cut.cut_end.Given as goal

abbrev pub invariant-loop-e : goal.invariant-loop-e
invariant-loop-e l = Ending l.s l.at l.low l.i l.least l.e

abbrev pub decreases-loop-e : goal.decreases-loop-e
decreases-loop-e l = length l.s - l.i
