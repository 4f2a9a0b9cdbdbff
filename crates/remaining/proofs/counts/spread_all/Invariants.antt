-- `remaining::counts::spread_all` meets its contract. Assumes nothing.
use mathlib.Core.Path.{◌≡◌}
use lib.ListN.{length}
use Rattle.sets.specs.Words.{set_of}
use Rattle.remaining.specs.Counting.{Spreading}
use Rattle.remaining.proofs.counts.spread_all.Given as goal

abbrev pub invariant-loop-i : goal.invariant-loop-i
invariant-loop-i l = (length l.ways ≡ length l.initial.ways) × Spreading l.nodes (set_of l.set) l.root l.ways l.totals l.i
