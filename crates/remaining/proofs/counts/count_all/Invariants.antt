-- `remaining::counts::count_all` meets its contract. Assumes nothing.
use mathlib.Core.Path.{◌≡◌}
use lib.ListN.{length}
use Rattle.sets.specs.Words.{set_of}
use Rattle.remaining.specs.Counting.{Counted}
use Rattle.remaining.proofs.counts.count_all.Given as goal

abbrev pub invariant-loop-i : goal.invariant-loop-i
invariant-loop-i l = (length l.below ≡ length l.initial.below) × Counted l.nodes (set_of l.set) l.below l.i
