-- `depthfirst::pass` meets its contract. Assumes nothing.
use Rattle.depthfirst.proofs.Small.{Passing}
use Rattle.depthfirst.proofs.pass.Given as goal

abbrev pub invariant-loop-q : goal.invariant-loop-q
invariant-loop-q l = Passing l.count l.inputs l.mark l.p l.end l.q
