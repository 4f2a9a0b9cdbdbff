-- `depthfirst::first_bare` meets its contract. Assumes nothing.
use Rattle.depthfirst.proofs.Rooting.{Bearing}
use Rattle.depthfirst.proofs.first_bare.Given as goal

abbrev pub invariant-loop-x : goal.invariant-loop-x
invariant-loop-x l = Bearing l.count l.mark l.a l.x
