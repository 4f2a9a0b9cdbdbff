-- `lists::show_set` meets its contract. Assumes nothing.
use Prim.Native.Nat.{◌-◌, ◌≤◌}
use Rattle.sets.specs.Words.{room}
use Rattle.lists.proofs.show_set.Given as goal

abbrev pub invariant-loop-i : goal.invariant-loop-i
invariant-loop-i g l = l.i ≤ room l.set

abbrev pub decreases-loop-i : goal.decreases-loop-i
decreases-loop-i g l = room l.set - l.i
