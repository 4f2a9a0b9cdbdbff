-- `decision::search` meets its contract. Assumes nothing.
use Prim.Native.Nat.{◌-◌}
use lib.ListN.{length}
use Rattle.sets.specs.Words.{set_of}
use Rattle.decision.proofs.Looking.{Searching}
use Rattle.decision.proofs.search.Given as goal

abbrev pub invariant-loop-e : goal.invariant-loop-e
invariant-loop-e l = Searching l.s (set_of l.set) l.i l.e l.found

abbrev pub decreases-loop-e : goal.decreases-loop-e
decreases-loop-e l = length l.s - l.i
