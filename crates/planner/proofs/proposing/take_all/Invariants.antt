-- `planner::proposing::take_all` meets its contract. Assumes nothing.
use mathlib.Core.Path.{◌≡◌}
use lib.ListN.{length}
use Rattle.sets.specs.Words.{words, set_of}
use Rattle.remaining.specs.Families.{family}
use Rattle.planner.proofs.Planning.{outside}
use Rattle.planner.proofs.Taking.{Going}
use Rattle.planner.proofs.proposing.take_all.Given as goal

abbrev pub invariant-loop-counts : goal.invariant-loop-counts
invariant-loop-counts l =
    (length l.set ≡ words) × Going l.events (family l.cuts l.root) (set_of l.set) l.counts l.e × (length l.counts ≡ length l.initial.counts) × (l.below ≡ l.initial.below) × (l.ways ≡ l.initial.ways)

abbrev pub decreases-loop-counts : goal.decreases-loop-counts
decreases-loop-counts l = outside l.events 0 (set_of l.set)
