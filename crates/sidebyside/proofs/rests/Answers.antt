-- `sidebyside::rests` meets its contract. Assumes nothing.
use Rattle.sidebyside.proofs.Telling.{held_good}
use Rattle.sidebyside.proofs.rests.Goals as goal

pub returns-in_default-rest : goal.returns-in_default-rest
returns-in_default-rest c = (held_good c.in-Some.ensures.held, c.in_default-rest.ensures)
