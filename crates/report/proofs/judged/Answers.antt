-- `report::judged` meets its contract. Assumes nothing.
use mathlib.Core.Path.{◌≡◌, refl, sym, ◌∙◌}
use lib.ListN.{length}
use borrow.Author.Tests.{not-true, not-false}
use Rattle.sets.specs.Words.{words}
use Rattle.tables.proofs.Flags.{says_true, says_false}
use Rattle.report.specs.Inner.{no_edition, no_diagram, too_short, no_chance, beyond}
use Rattle.report.proofs.Answers.{some_beyond, none_beyond}
use borrow.Author.Rules.{rules}
use Rattle.report.proofs.judged.Goals as goal

pub returns-then-not-is_edition : goal.returns-then-not-is_edition
returns-then-not-is_edition c = no_edition (sym c.is_edition.ensures ∙ not-true c.is_edition.result c.if-not-is_edition.true-raw) refl

pub returns-then-not-is_diagram : goal.returns-then-not-is_diagram
returns-then-not-is_diagram c = no_diagram (sym c.is_edition.ensures ∙ not-false c.is_edition.result c.if-not-is_edition.false-raw) (says_false c.is_diagram.result (not-true c.is_diagram.result c.if-not-is_diagram.true-raw) c.is_diagram.ensures) refl

pub returns-then-not-enough : goal.returns-then-not-enough
returns-then-not-enough c = too_short (sym c.is_edition.ensures ∙ not-false c.is_edition.result c.if-not-is_edition.false-raw) (says_true c.is_diagram.result (not-false c.is_diagram.result c.if-not-is_diagram.false-raw) c.is_diagram.ensures) (says_false c.enough.result (not-true c.enough.result c.if-not-enough.true-raw) c.enough.ensures) refl

pub chances_ok-requires : goal.chances_ok-requires
chances_ok-requires c = (says_true c.enough.result (not-false c.enough.result c.if-not-enough.false-raw) c.enough.ensures).chances

pub returns-then-not-chances_ok : goal.returns-then-not-chances_ok
returns-then-not-chances_ok c = no_chance (sym c.is_edition.ensures ∙ not-false c.is_edition.result c.if-not-is_edition.false-raw) (says_true c.is_diagram.result (not-false c.is_diagram.result c.if-not-is_diagram.false-raw) c.is_diagram.ensures) (says_true c.enough.result (not-false c.enough.result c.if-not-enough.false-raw) c.enough.ensures) (says_false c.chances_ok.result (not-true c.chances_ok.result c.if-not-chances_ok.true-raw) c.chances_ok.ensures) refl

pub returns-then-lowest-lt-MOST : goal.returns-then-lowest-lt-MOST
returns-then-lowest-lt-MOST c = let g = c.well_formed.1.1.1.1.1.1.1.1.0 in let four : length c.args.base ≡ words = search rules in beyond (sym c.is_edition.ensures ∙ not-false c.is_edition.result c.if-not-is_edition.false-raw) (says_true c.is_diagram.result (not-false c.is_diagram.result c.if-not-is_diagram.false-raw) c.is_diagram.ensures) (says_true c.enough.result (not-false c.enough.result c.if-not-enough.false-raw) c.enough.ensures) (says_true c.chances_ok.result (not-false c.chances_ok.result c.if-not-chances_ok.false-raw) c.chances_ok.ensures) (some_beyond c.args.base four c.lowest.ensures c.if-lowest-lt-MOST.true) refl

pub returns : goal.returns
returns c = let g = c.well_formed.1.1.1.1.1.1.1.1.0 in let four : length c.args.base ≡ words = search rules in record { known = (sym c.is_edition.ensures ∙ not-false c.is_edition.result c.if-not-is_edition.false-raw); lent = (says_true c.is_diagram.result (not-false c.is_diagram.result c.if-not-is_diagram.false-raw) c.is_diagram.ensures); enough = (says_true c.enough.result (not-false c.enough.result c.if-not-enough.false-raw) c.enough.ensures); chances = (says_true c.chances_ok.result (not-false c.chances_ok.result c.if-not-chances_ok.false-raw) c.chances_ok.ensures); inside = none_beyond c.args.base four c.lowest.ensures c.if-lowest-lt-MOST.false }
