-- `sizes::up_to` meets its contract. Assumes nothing.
use Prim.Native.Nat.{◌≤◌, ◌<◌}
use lib.ListN.{length}
use Rattle.tables.specs.Table.{den}
use Rattle.sizes.specs.Passes.{Before, Totals}
use Rattle.sizes.proofs.up_to.Given as goal

abbrev pub invariant-loop-k : goal.invariant-loop-k
invariant-loop-k l = (l.root < length l.less) × (l.root < length l.work) × (2 ≤ length l.less) × (2 ≤ length l.work) × (Totals (den l.nodes l.root) l.k l.totals) × Before l.nodes l.root l.k l.less
