-- `digits::at_most` meets its contract. Assumes nothing.
use Rattle.digits.proofs.Steps.{Agree}
use Rattle.digits.proofs.at_most.Given as goal

abbrev pub invariant-loop-k : goal.invariant-loop-k
invariant-loop-k l = Agree l.xs l.ys l.k
