-- `decision::covers` meets its contract. Assumes nothing.
use Prim.Native.Nat.{◌-◌}
use lib.ListN.{length}
use Rattle.sets.specs.Words.{set_of}
use Rattle.decision.proofs.Looking.{Looking}
use Rattle.decision.proofs.covers.Given as goal

abbrev pub invariant-loop-e : goal.invariant-loop-e
invariant-loop-e l = Looking l.s l.at (set_of l.set) l.i l.e

abbrev pub decreases-loop-e : goal.decreases-loop-e
decreases-loop-e l = length l.s - l.i
