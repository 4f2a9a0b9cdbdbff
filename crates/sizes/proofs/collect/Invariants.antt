-- `sizes::collect` meets its contract. Assumes nothing.
use Prim.Native.Nat.{◌+◌, ◌≤◌, max}
use Rattle.sizes.specs.Reach.{Collecting}
use Rattle.sizes.proofs.collect.Given as goal

abbrev pub invariant-loop-i : goal.invariant-loop-i
invariant-loop-i l = Collecting l.initial.reached l.reached l.many l.i × (l.i ≤ max 2 (l.root + 1))
