-- `scanning::judging::give_chance` meets its contract. Assumes nothing.
use Rattle.std.proofs.Common.{arith}
use Rattle.scanning.proofs.Giving.{tells_unknown, found_room, found_place, tells_left, tells_again, tells_kept}
use Rattle.scanning.proofs.judging.give_chance.Goals as goal

pub returns-in_default : goal.returns-in_default
returns-in_default c = tells_unknown c.requires.gathered (rw c.in_default.is at c.look.ensures)

pub bounds-defs-n : goal.bounds-defs-n
bounds-defs-n c = found_place c.requires.gathered c.requires.places (rw c.in-Some.is at c.look.ensures) c.place-n.ensures

pub returns-then-defs-n-gt0 : goal.returns-then-defs-n-gt0
returns-then-defs-n-gt0 c = tells_left c.requires.gathered c.requires.places (rw c.in-Some.is at c.look.ensures) c.place-n.ensures c.if-defs-n-gt0.true

pub bounds-marks-n : goal.bounds-marks-n
bounds-marks-n c = omega (arith, found_room c.requires.gathered c.requires.places (rw c.in-Some.is at c.look.ensures) c.place-n.ensures, c.requires.at_in_bounds.1)

pub returns-then-marks-n-gt0 : goal.returns-then-marks-n-gt0
returns-then-marks-n-gt0 c = tells_again c.requires.gathered c.requires.places (rw c.in-Some.is at c.look.ensures) c.place-n.ensures c.if-marks-n-gt0.true

pub bounds-chances-n : goal.bounds-chances-n
bounds-chances-n c = omega (arith, found_room c.requires.gathered c.requires.places (rw c.in-Some.is at c.look.ensures) c.place-n.ensures, c.requires.at_in_bounds.2)

pub returns : goal.returns
returns c = tells_kept c.requires.gathered c.requires.places (rw c.in-Some.is at c.look.ensures) c.place-n.ensures c.if-defs-n-gt0.false c.if-marks-n-gt0.false
