-- `review::start_from` meets its contract. Assumes nothing.
use mathlib.Core.Path.{refl}
use Rattle.review.proofs.Kept.{landed_from}
use Rattle.review.proofs.start_from.Goals as goal

pub returns : goal.returns
returns c =
    let v = c.in_ok-q.ensures in
    let d = c.descend-m.ensures in
    (landed_from v.0 d.0, d.1, record { no_member = refl; no_event = refl; inside = d.2.inside; within = d.2.within })
