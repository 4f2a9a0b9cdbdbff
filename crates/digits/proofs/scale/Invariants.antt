-- `digits::scale` meets its contract. Assumes nothing.
use Rattle.digits.proofs.Steps.{Scaled}
use Rattle.digits.proofs.scale.Given as goal

abbrev pub invariant-loop-k : goal.invariant-loop-k
invariant-loop-k l = Scaled l.initial.ds l.ds l.used l.x l.k l.carry
