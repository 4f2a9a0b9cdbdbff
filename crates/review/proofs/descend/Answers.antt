-- `review::descend` meets its contract. Assumes nothing.
use mathlib.Core.Path.{refl}
use lib.ListN.{length-set}
use native.Mathlib.Omega.{arith}
use Rattle.tables.proofs.Flags.{says_true, says_false}
use Rattle.walk.proofs.Paths.{room_for, fits_at}
use Rattle.walk.proofs.Carry.{carries_room, carries_push}
use Rattle.walk.proofs.Follow.{longer_start, longer_push, longer_up}
use Rattle.review.proofs.Kept.{sinking_start, sinking_open, sinking_failed, sinking_sound, sinking_end, untouched, carries_same, sound_up}
use Rattle.review.proofs.Turns.{left_failed, left_sound}
use Rattle.review.proofs.descend.Goals as goal

pub loop-i-init : goal.loop-i-init
loop-i-init c = (sinking_start c.requires.0 c.requires.1, refl, c.requires.2, longer_start c.requires.3, c.requires.3.above)

pub failed_of-f-requires : goal.failed_of-f-requires
failed_of-f-requires c = let f = fits_at c.loop-i.invariant.0.path c.loop-i-test.true in (f.two, f.inside)

pub overflow_cast-path : goal.overflow_cast-path
overflow_cast-path c = omega (arith, (fits_at c.loop-i.invariant.0.path c.loop-i-test.true).small)

pub bounds-path-d : goal.bounds-path-d
bounds-path-d c = room_for c.loop-i.invariant.0.path c.loop-i-test.true

pub overflow_add-k : goal.overflow_add-k
overflow_add-k c = omega (arith, room_for c.loop-i.invariant.0.path c.loop-i-test.true, c.well_formed)

pub hope-requires : goal.hope-requires
hope-requires c = (sinking_open c.loop-i.invariant.0 c.loop-i-test.true c.failed_of-f.ensures, c.requires.4)

pub event_of-high-requires : goal.event_of-high-requires
event_of-high-requires c = let f = fits_at c.loop-i.invariant.0.path c.loop-i-test.true in (f.two, f.inside)

pub add-requires : goal.add-requires
add-requires c = carries_room c.loop-i.invariant.0.path c.loop-i.invariant.2 c.loop-i-test.true c.event_of-high.ensures

pub loop-i-smaller-then-hope : goal.loop-i-smaller-then-hope
loop-i-smaller-then-hope c = left_failed c.loop-i.invariant.0.path c.loop-i-test.true c.failed_of-f.ensures

pub loop-i-preserved-then-hope : goal.loop-i-preserved-then-hope
loop-i-preserved-then-hope c = (sinking_failed c.loop-i.invariant.0 c.loop-i-test.true c.failed_of-f.ensures (says_true c.hope.result c.if-hope.true c.hope.ensures), simp length-set c.loop-i.invariant.1, carries_push c.loop-i.invariant.0.path c.loop-i.invariant.2 c.loop-i-test.true c.event_of-high.ensures c.add.auto.ws c.add.ensures, longer_push c.loop-i.invariant.0.path c.loop-i-test.true c.loop-i.invariant.3 c.loop-i.invariant.4 c.event_of-high.ensures c.add.ensures, longer_up c.loop-i.invariant.0.path c.loop-i-test.true c.loop-i.invariant.3 c.loop-i.invariant.4 c.event_of-high.ensures c.failed_of-f.ensures)

pub sound_of-i-requires : goal.sound_of-i-requires
sound_of-i-requires c = let f = fits_at c.loop-i.invariant.0.path c.loop-i-test.true in (f.two, f.inside)

pub loop-i-smaller : goal.loop-i-smaller
loop-i-smaller c = left_sound c.loop-i.invariant.0.path c.loop-i-test.true c.sound_of-i.ensures

pub loop-i-preserved : goal.loop-i-preserved
loop-i-preserved c = (sinking_sound c.loop-i.invariant.0 c.loop-i-test.true c.failed_of-f.ensures c.sound_of-i.ensures (says_false c.hope.result c.if-hope.false c.hope.ensures), simp length-set c.loop-i.invariant.1, carries_same c.loop-i.invariant.2 (untouched c.loop-i.invariant.0 c.loop-i-test.true), c.loop-i.invariant.3, sound_up c.loop-i.invariant.0.path c.loop-i-test.true c.loop-i.invariant.4 c.sound_of-i.ensures)

pub shape_of-path : goal.shape_of-path
shape_of-path c = c.loop-i.invariant.1

pub returns : goal.returns
returns c = (sinking_end c.loop-i.invariant.0 c.loop-i-test.false, c.loop-i.invariant.2, c.loop-i.invariant.3, refl, refl)
