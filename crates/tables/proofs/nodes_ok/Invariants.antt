-- `tables::nodes_ok` meets its contract. Assumes nothing.
use Prim.Native.Nat.{ℕ, ◌≤◌, ◌<◌}
use Rattle.tables.specs.Lent.{Node, Kind}
use Rattle.tables.proofs.nodes_ok.Given as goal

abbrev pub invariant-loop-i : goal.invariant-loop-i
invariant-loop-i l = (j : ℕ) → j < l.i → 2 ≤ j → Node l.n l.nodes j × Kind l.cut l.nodes j
