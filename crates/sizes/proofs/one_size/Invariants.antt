-- `sizes::one_size` meets its contract. Assumes nothing.
use Rattle.sizes.specs.Passes.{Passing}
use Rattle.sizes.proofs.one_size.Given as goal

abbrev pub invariant-loop-i : goal.invariant-loop-i
invariant-loop-i l = Passing l.nodes l.list l.k l.work l.i-index
