-- The sum of the two numbers falls, so the recursion ends, whatever the memo holds.
-- Assumes nothing.
use Prim.Native.Nat.{◌+◌}
use Rattle.joins.proofs.+join_nodes.Given as goal

abbrev pub decreases-join_nodes : goal.decreases-join_nodes
decreases-join_nodes l = l.f + l.g
