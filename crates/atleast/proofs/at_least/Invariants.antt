-- `atleast::at_least`
use Rattle.atleast.proofs.Taking.{Stage}
use Rattle.atleast.proofs.at_least.Given as goal

abbrev pub invariant-loop-i : goal.invariant-loop-i
invariant-loop-i l = Stage l.k l.xs l.initial.nodes l.count l.i l.nodes l.heads l.next l.memo l.row l.used
