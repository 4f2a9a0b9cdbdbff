-- `remaining::counts::write` meets its contract. Assumes nothing.
use Rattle.remaining.specs.Counting.{Written}
use Rattle.remaining.proofs.counts.write.Given as goal

abbrev pub invariant-loop-e : goal.invariant-loop-e
invariant-loop-e l = Written l.e l.initial.counts l.totals l.counts
