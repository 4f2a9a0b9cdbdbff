-- `sidebyside::cut::order` meets its contract. Assumes nothing.
use Prim.Native.Nat.{◌+◌, ◌-◌}
use lib.ListN.{length}
use Rattle.sidebyside.specs.OneCut.{Whole}
use Rattle.sidebyside.proofs.Whole.{Sharing}
use Rattle.sidebyside.proofs.cut.order.Given as goal

abbrev pub invariant-loop-first : goal.invariant-loop-first
invariant-loop-first l = Sharing l.a l.from l.b l.start l.bytes × Whole l.b (l.start + l.bytes)

abbrev pub decreases-loop-first : goal.decreases-loop-first
decreases-loop-first l = length l.a - (l.from + l.bytes)
