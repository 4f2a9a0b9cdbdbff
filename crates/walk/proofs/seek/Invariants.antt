-- `walk::seek` meets its contract. Assumes nothing.
use mathlib.Core.Path.{◌≡◌}
use lib.ListN.{length}
use Rattle.paper.specs.Sets.{Within}
use Rattle.paper.specs.Order.{rest}
use Rattle.paper.specs.Cuts.{sets_of}
use Rattle.sets.specs.Words.{set_of}
use Rattle.tables.specs.Table.{den}
use Rattle.walk.specs.Paths.{Carries}
use Rattle.walk.proofs.After.{At}
use Rattle.walk.proofs.seek.Given as goal

abbrev pub invariant-loop-node : goal.invariant-loop-node
invariant-loop-node l = At l.n l.nodes l.count (set_of l.s) l.path l.depth l.node l.i (rest l.n (set_of l.s) (sets_of (den l.nodes l.root))) × (length l.path ≡ length l.initial.path) × Carries l.nodes l.path l.depth l.set × Within l.i (set_of l.set)

abbrev pub decreases-loop-node : goal.decreases-loop-node
decreases-loop-node l = l.node
