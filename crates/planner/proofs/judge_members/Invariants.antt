-- `planner::judge_members` meets its contract. Assumes nothing.
use mathlib.Core.Path.{◌≡◌}
use Prim.Native.Nat.{◌-◌}
use Rattle.sets.specs.Words.{set_of}
use Rattle.remaining.specs.Families.{family}
use Rattle.planner.proofs.Checking.{Trying}
use Rattle.planner.proofs.judge_members.Given as goal

abbrev pub invariant-loop-e : goal.invariant-loop-e
invariant-loop-e l = (l.some ≡ l.initial.some) × Trying l.events (set_of l.set) (family l.cuts l.root) l.e

abbrev pub decreases-loop-e : goal.decreases-loop-e
decreases-loop-e l = l.events - l.e
