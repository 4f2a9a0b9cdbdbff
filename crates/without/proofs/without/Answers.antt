-- The question, and where it has no answer the recursion. Assumes nothing.
use Rattle.without.proofs.Recursion.{taken_here}
use Rattle.without.proofs.without.Goals as goal

pub returns-in-Node : goal.returns-in-Node
returns-in-Node c = taken_here c.requires c.in-Node.ensures
