-- `totals::adds_up` meets its contract. Assumes nothing.
use Rattle.totals.proofs.Lengths.{Left}
use Rattle.totals.proofs.adds_up.Given as goal

abbrev pub invariant-loop-n : goal.invariant-loop-n
invariant-loop-n l = Left l.lengths l.size l.n-index l.left
