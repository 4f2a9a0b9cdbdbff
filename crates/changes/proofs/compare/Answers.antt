-- `changes::compare` meets its contract. Assumes nothing.
use Rattle.changes.proofs.Amounts.{compared_now}
use Rattle.changes.proofs.compare.Goals as goal

pub returns : goal.returns
returns c = compared_now c.tally.result c.tally.ensures
