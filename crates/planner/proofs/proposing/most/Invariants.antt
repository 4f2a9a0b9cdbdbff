-- `planner::proposing::most` meets its contract. Assumes nothing.
use Rattle.planner.specs.Taking.{Most}
use Rattle.planner.proofs.proposing.most.Given as goal

abbrev pub invariant-loop-i : goal.invariant-loop-i
invariant-loop-i l = Most l.counts l.i l.best
