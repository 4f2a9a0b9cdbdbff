-- `followup::next_room` meets its contract. Assumes nothing.
use native.Mathlib.Omega.{arith}
use Rattle.paper.proofs.Refusals.{number_above}
use Rattle.followup.proofs.Rooms.{never_refused}
use Rattle.followup.proofs.next_room.Goals as goal

pub returns : goal.returns
returns c = never_refused c.requires.lent c.requires.good_start c.requires.longest_in_bounds c.in-Ok.ensures

pub unreachable-requires : goal.unreachable-requires
unreachable-requires c =
    let zero = (never_refused c.requires.lent c.requires.good_start c.requires.longest_in_bounds c.in_default.ensures).is in
    let some = number_above c.in_default.field-0 in
    omega arith
