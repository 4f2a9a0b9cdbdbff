-- `sizes::largest_size` meets its contract. Assumes nothing.
use Rattle.tables.specs.Table.{den}
use Rattle.sizes.specs.Recursion.{deepest}
use Rattle.sizes.specs.Passes.{Valued}
use Rattle.sizes.proofs.largest_size.Given as goal

abbrev pub invariant-loop-i : goal.invariant-loop-i
invariant-loop-i l = Valued (λ j. deepest (den l.nodes j)) l.list l.work l.i-index
