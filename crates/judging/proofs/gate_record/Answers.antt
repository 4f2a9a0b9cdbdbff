-- `survey::gate_record` meets its contract.
-- Assumes nothing.
use borrow.Author.Tests.{ne_eqb}
use Rattle.judging.proofs.Coding.{own_unknown, own_and, own_or, own_least}
use Rattle.judging.proofs.gate_record.Goals as goal

pub returns-in-2 : goal.returns-in-2
returns-in-2 c = (rw c.in-2.is, own_and _)

pub returns-in-3 : goal.returns-in-3
returns-in-3 c = (rw c.in-3.is, own_or _)

pub returns-in-4 : goal.returns-in-4
returns-in-4 c = (rw c.in-4.is, own_least _ _)

pub returns-in_default : goal.returns-in_default
returns-in_default c = (let r = c.in_default.in_default-own.rest in simp (ne_eqb _ _ r.1, ne_eqb _ _ r.0.1, ne_eqb _ _ r.0.0.1), own_unknown)
