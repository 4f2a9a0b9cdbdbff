-- `sidebyside::cut::common` meets its contract. Assumes nothing.
use Prim.Native.Nat.{◌+◌, ◌-◌}
use lib.ListN.{length}
use Rattle.sidebyside.proofs.Whole.{Sharing}
use Rattle.sidebyside.proofs.cut.common.Given as goal

abbrev pub invariant-loop-from : goal.invariant-loop-from
invariant-loop-from l = Sharing l.a l.from l.b l.start l.bytes

abbrev pub decreases-loop-from : goal.decreases-loop-from
decreases-loop-from l = length l.a - (l.from + l.bytes)
