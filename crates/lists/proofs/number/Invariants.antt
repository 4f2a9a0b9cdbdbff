-- `lists::number` meets its contract. Assumes nothing.
use Prim.Native.Nat.{◌≤◌}
use Rattle.lists.proofs.number.Given as goal

abbrev pub invariant-loop-at : goal.invariant-loop-at
invariant-loop-at l = l.v ≤ 999999999
