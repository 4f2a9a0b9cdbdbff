-- `remaining::marks::first_from` meets its contract. Assumes nothing.
use mathlib.Core.Path.{◌≡◌}
use lib.ListN.{length}
use Rattle.sets.specs.Words.{words, set_of}
use Rattle.remaining.specs.Marking.{Following}
use Rattle.remaining.proofs.marks.first_from.Given as goal

abbrev pub invariant-loop-i : goal.invariant-loop-i
invariant-loop-i l = (length l.cut ≡ words) × Following l.nodes (set_of l.set) l.root (set_of l.cut) l.i

abbrev pub decreases-loop-i : goal.decreases-loop-i
decreases-loop-i l = l.i
