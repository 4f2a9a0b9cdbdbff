-- `store::find`
use lib.ListN.{length}
use Rattle.store.proofs.Search.{Seek}
use Rattle.store.proofs.find.Given as goal

abbrev pub invariant-loop-i : goal.invariant-loop-i
invariant-loop-i l = Seek l.nodes (length l.heads) l.count l.e l.failed l.sound l.i

abbrev pub decreases-loop-i : goal.decreases-loop-i
decreases-loop-i l = l.i
