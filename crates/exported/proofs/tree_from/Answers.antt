-- `exported::tree_from` meets its contract. Assumes nothing.
use Rattle.exported.proofs.Answers.{taken_from}
use Rattle.exported.proofs.tree_from.Goals as goal

pub returns : goal.returns
returns c = taken_from _ _ _ _ _ _ _ _ _ c.events_of-all.ensures
