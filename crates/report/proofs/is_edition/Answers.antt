-- `report::is_edition` meets its contract. Assumes nothing.
use Rattle.report.proofs.Answers.{edition_one, edition_other}
use Rattle.report.proofs.is_edition.Goals as goal

pub returns-then-edition-eq1 : goal.returns-then-edition-eq1
returns-then-edition-eq1 c = edition_one c.args.edition c.if-edition-eq1.true

pub returns : goal.returns
returns c = edition_other c.args.edition c.if-edition-eq1.false
