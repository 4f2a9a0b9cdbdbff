-- The invariant: the node at hand stands for g. Assumes nothing.
use Rattle.without.specs.Without.{Passed}
use Rattle.without.proofs.past.Given as goal

abbrev pub invariant-loop-e : goal.invariant-loop-e
invariant-loop-e l = Passed l.nodes l.e l.g l.h

abbrev pub decreases-loop-e : goal.decreases-loop-e
decreases-loop-e l = l.h
