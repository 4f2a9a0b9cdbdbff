-- `followup::top` meets its contract. Assumes nothing.
use borrow.Author.Rules.{rules}
use Rattle.followup.proofs.Tops.{topped}
use Rattle.followup.proofs.top.Goals as goal

pub returns : goal.returns
returns c = topped c.requires.priced c.requires.nodes_in_bounds c.chances_of-chances.ensures c.in-Ok.ensures
