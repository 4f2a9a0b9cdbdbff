-- `sidebyside::find` meets its contract. Assumes nothing.
use Rattle.sidebyside.proofs.Telling.{held_good}
use Rattle.sidebyside.proofs.find.Goals as goal

pub returns : goal.returns
returns c = let both = c.in_ok-rests.ensures in c.part-p.ensures.shows (held_good both.0.held) (held_good both.1.held)
