-- `writing::judged` meets its contract.
-- Assumes nothing.
use mathlib.Core.Path.{sym, ◌∙◌}
use native.Mathlib.Omega.{arith}
use Rattle.records.proofs.Closing.{passed_on}
use Rattle.writing.proofs.Writing.{judged_sited, judged_done, judged_refused}
use Rattle.writing.proofs.judged.Goals as goal

pub lost-requires : goal.lost-requires
lost-requires c = (rw c.in_ok-n.was at c.survey.ensures).few

pub overflow_mul-result : goal.overflow_mul-result
overflow_mul-result c = rw c.length.ensures (record { fits = omega (arith, (rw c.in_ok-n.was at c.survey.ensures).few, rw c.in-Some.is at c.lost.ensures.1) })

pub returns-in-Some : goal.returns-in-Some
returns-in-Some c = judged_sited (rw c.in_ok-n.was at c.survey.ensures) (sym c.in-Some.is ∙ c.lost.ensures.0) c.length.ensures

pub returns : goal.returns
returns c = judged_done (rw c.in_ok-n.was at c.survey.ensures) (sym c.in_default.is ∙ c.lost.ensures.0)

pub returns-in_err-n : goal.returns-in_err-n
returns-in_err-n c = rw (passed_on c.from_residual.ensures.1) (judged_refused _ (rw c.in_err-n.was at c.survey.ensures))
