-- `walk::climb` meets its contract. Assumes nothing.
use mathlib.Core.List.{[]}
use lib.ListN.{take}
use Rattle.sets.specs.Words.{set_of}
use Rattle.walk.specs.Paths.{around, Carries}
use Rattle.walk.proofs.Steps.{Behind}
use Rattle.walk.proofs.Follow.{Trimmed}
use Rattle.walk.proofs.climb.Given as goal

abbrev pub invariant-loop-d : goal.invariant-loop-d
invariant-loop-d l = Behind l.n l.nodes l.count l.path l.d (around l.nodes (take l.depth l.path) []) × Carries l.nodes l.path l.d l.set × Trimmed (set_of l.initial.set) (set_of l.set)
