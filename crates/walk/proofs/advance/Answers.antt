-- `walk::advance` meets its contract. Assumes nothing.
use Rattle.walk.proofs.Steps.{reached_from}
use Rattle.walk.proofs.Members.{path_count}
use Rattle.walk.proofs.Follow.{follows}
use Rattle.walk.proofs.advance.Goals as goal

pub returns : goal.returns
returns c =
    let u = c.in_ok-p.ensures in
    let d = c.descend.ensures in
    (reached_from u.0 d.0, d.1, follows u.3 (path_count u.0.path u.1 u.2.below) d.2 d.3 d.4)
