-- `sidebyside::part` meets its contract. Assumes nothing.
use Prim.Native.Nat.{◌-◌}
use lib.ListN.{length}
use Rattle.sidebyside.proofs.Finding.{Along}
use Rattle.sidebyside.proofs.part.Given as goal

abbrev pub invariant-loop-end : goal.invariant-loop-end
invariant-loop-end l = Along l.y l.t l.at l.end l.stop

abbrev pub decreases-loop-end : goal.decreases-loop-end
decreases-loop-end l = length l.y - l.at
