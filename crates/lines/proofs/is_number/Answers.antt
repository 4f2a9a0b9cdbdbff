-- `lines::is_number` meets its contract. Assumes nothing.
use Rattle.std.proofs.Common.{sym, ◌∙◌, arith}
use borrow.Author.Tests.{eq-eqb, lt-leb}
use Rattle.lines.proofs.Numbers.{number_empty, number_one, number_more}
use Rattle.lines.proofs.is_number.Goals as goal

pub returns-then-e-i-eq1 : goal.returns-then-e-i-eq1
returns-then-e-i-eq1 c = eq-eqb _ _ c.if-e-i-eq1.true ∙ sym (number_one c.requires c.if-e-i-eq1.true)

pub returns-then-i-e : goal.returns-then-i-e
returns-then-i-e c = sym (number_more c.requires c.if-i-e.true c.if-e-i-eq1.false)

pub returns-else-i-e : goal.returns-else-i-e
returns-else-i-e c = lt-leb _ _ (omega (arith, c.if-i-e.false)) ∙ sym (number_empty c.requires c.if-i-e.false)
