-- `totals::add` meets its contract. Assumes nothing.
use Rattle.totals.specs.Adding.{numbers_of, Adding}
use Rattle.totals.proofs.add.Given as goal

abbrev pub invariant-loop-k : goal.invariant-loop-k
invariant-loop-k l = Adding (numbers_of l.counts) l.k l.initial.totals l.totals
