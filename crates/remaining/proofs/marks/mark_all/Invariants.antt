-- `remaining::marks::mark_all` meets its contract. Assumes nothing.
use mathlib.Core.Path.{◌≡◌}
use lib.ListN.{length}
use Rattle.sets.specs.Words.{set_of}
use Rattle.remaining.specs.Marking.{Marked}
use Rattle.remaining.proofs.marks.mark_all.Given as goal

abbrev pub invariant-loop-i : goal.invariant-loop-i
invariant-loop-i l = (length l.some ≡ length l.initial.some) × Marked l.nodes (set_of l.set) l.some l.i
