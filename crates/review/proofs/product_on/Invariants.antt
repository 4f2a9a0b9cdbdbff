-- `review::product_on` meets its contract. Assumes nothing.
use Rattle.review.proofs.Hopes.{Multiplied}
use Rattle.review.proofs.product_on.Given as goal

abbrev pub invariant-loop-k : goal.invariant-loop-k
invariant-loop-k l = Multiplied l.chances l.nodes l.path l.initial.ds l.ds l.depth l.k
