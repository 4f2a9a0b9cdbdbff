-- `walk::descend` meets its contract. Assumes nothing.
use mathlib.Core.Path.{◌≡◌}
use Prim.Native.Nat.{◌≤◌}
use lib.ListN.{length, take}
use Rattle.paper.specs.Cuts.{sets_of}
use Rattle.sets.specs.Words.{set_of}
use Rattle.tables.specs.Table.{event_of, den}
use Rattle.walk.specs.Paths.{around, Carries}
use Rattle.walk.specs.Follows.{Longer}
use Rattle.walk.proofs.Steps.{Down}
use Rattle.walk.proofs.descend.Given as goal

abbrev pub invariant-loop-i : goal.invariant-loop-i
invariant-loop-i l = Down l.n l.nodes l.count l.path l.d l.i (around l.nodes (take l.initial.d l.initial.path) (sets_of (den l.nodes l.initial.i))) × (length l.path ≡ length l.initial.path) × Carries l.nodes l.path l.d l.set × Longer l.n (set_of l.initial.set) (set_of l.set) l.initial.high l.high × (2 ≤ l.i → l.high ≤ event_of l.nodes l.i)

abbrev pub decreases-loop-i : goal.decreases-loop-i
decreases-loop-i l = l.i
