-- `names::find` meets its contract. Assumes nothing.
use lib.ListN.{length}
use Rattle.lines.specs.Reading.{name_at}
use Rattle.names.proofs.Interning.{Seek}
use Rattle.names.proofs.find.Given as goal

abbrev pub invariant-loop-i : goal.invariant-loop-i
invariant-loop-i l = Seek l.text l.names (length l.heads) l.count (name_at l.text l.at) l.i

abbrev pub decreases-loop-i : goal.decreases-loop-i
decreases-loop-i l = l.i
