-- `review::start` meets its contract. Assumes nothing.
use Rattle.review.proofs.Kept.{spotted_self}
use Rattle.review.proofs.start.Goals as goal

pub start_from-requires : goal.start_from-requires
start_from-requires c = let u = c.in_ok-p.ensures in (spotted_self u.0, u.1, u.2, c.requires.3)

pub returns : goal.returns
returns c = rw c.in_ok-p.ensures.0.is c.start_from.ensures
