-- `sets::recount` meets its contract. Before word k `ahead` is right and n members stand. Assumes nothing.
use Rattle.sets.proofs.Beside.{Counting}
use Rattle.sets.proofs.recount.Given as goal

abbrev pub invariant-loop-k : goal.invariant-loop-k
invariant-loop-k l = Counting l.ws l.high l.ahead l.k l.n
