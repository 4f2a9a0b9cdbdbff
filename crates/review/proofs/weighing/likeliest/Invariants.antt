-- `review::weighing::likeliest` meets its contract. Assumes nothing.
use Rattle.review.proofs.Weights.{Along}
use Rattle.review.proofs.weighing.likeliest.Given as goal

abbrev pub invariant-loop-i : goal.invariant-loop-i
invariant-loop-i l = Along l.n l.chances l.nodes l.count l.initial.ds l.ds l.at l.used l.i l.u

abbrev pub decreases-loop-i : goal.decreases-loop-i
decreases-loop-i l = l.i
