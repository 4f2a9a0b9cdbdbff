-- `report::report` meets its contract. Assumes nothing.
use mathlib.Core.Path.{◌≡◌, refl, ap, sym, ◌∙◌}
use native.Mathlib.Omega.{arith}
use lib.ListN.{length}
use Rattle.std.proofs.Common.{Ok, Err}
use Rattle.paper.specs.Refusals.{number, number_of}
use Rattle.paper.proofs.Refusals.{number_above}
use Rattle.sets.specs.Words.{words}
use Rattle.listing.proofs.Answers.{turned_down}
use Rattle.report.proofs.Answers.{answer_refused, begun_long, answer_done}
use borrow.Author.Rules.{rules}
use Rattle.report.proofs.report.Goals as goal

pub returns-in_err-judged : goal.returns-in_err-judged
returns-in_err-judged c =
    let why = c.in_err-judged.field-0.0 in
    let e : c.from_residual.result ≡ Err why = search rules in
    rw e (answer_refused c.start_of-base.ensures _ _ _ c.in_err-judged.ensures (refl, turned_down (number why)))

pub report_from-requires : goal.report_from-requires
report_from-requires c =
    let f = c.in_ok-judged.ensures in
    let four : length c.args.s ≡ words = search rules in
    (f.lent, begun_long c.start_of-base.ensures four, f.enough, f.chances)

pub returns-in_err-listed : goal.returns-in_err-listed
returns-in_err-listed c =
    let why = c.in_err-listed.field-0.0 in
    let e : c.from_residual-in_err-listed.result ≡ Err why = search rules in
    let some = number_above why in
    let r = c.in_err-listed.ensures in
    rw e (answer_done c.start_of-base.ensures c.in_ok-judged.ensures (r.0, r.1, (λ z. absurd (omega arith)), λ _. refl))

pub returns : goal.returns
returns c =
    let r = c.in_ok-listed.ensures in
    answer_done c.start_of-base.ensures c.in_ok-judged.ensures (r.0, r.1, (λ _. refl), λ z. absurd (omega arith))
