-- `decimals::digits` meets its contract. Assumes nothing.
use Rattle.decimals.proofs.Decimals.{Half}
use Rattle.decimals.proofs.digits.Given as goal

abbrev pub invariant-loop-rest : goal.invariant-loop-rest
invariant-loop-rest l = Half l.n l.room l.rest l.at

abbrev pub decreases-loop-rest : goal.decreases-loop-rest
decreases-loop-rest l = l.rest
