-- `review::climb` meets its contract. Assumes nothing.
use Prim.Native.Nat.{◌-◌}
use native.Mathlib.Omega.{arith}
use Rattle.tables.proofs.Flags.{says_true, says_false}
use Rattle.walk.proofs.Paths.{fits_entry}
use Rattle.walk.proofs.Carry.{carries_holds, carries_pop}
use Rattle.walk.proofs.Follow.{trim_start, trim_pop, parts_pop, shorter_pop}
use Rattle.review.specs.Hopes.{worth}
use Rattle.review.proofs.Kept.{rising_start, rising_open, rising_found, rising_more, rising_end}
use Rattle.review.proofs.climb.Goals as goal

pub loop-d-init : goal.loop-d-init
loop-d-init c = (rising_start (worth c.args.edition c.args.chances.now c.args.n) c.requires.0, c.requires.1, trim_start c.requires.0 c.requires.1)

pub bounds-path-d : goal.bounds-path-d
bounds-path-d c = omega (arith, c.loop-d.invariant.0.path.deep)

pub event_of-low-requires : goal.event_of-low-requires
event_of-low-requires c = let f = fits_entry c.loop-d.invariant.0.path (c.loop-d.d - 1) (omega arith) c.wide-i.ensures in (f.two, f.inside)

pub remove-requires : goal.remove-requires
remove-requires c = carries_holds c.loop-d.invariant.0.path c.loop-d.invariant.1 c.loop-d-test.true c.wide-i.ensures c.event_of-low.ensures

pub sound_of-node-requires : goal.sound_of-node-requires
sound_of-node-requires c = let f = fits_entry c.loop-d.invariant.0.path (c.loop-d.d - 1) (omega arith) c.wide-i.ensures in (f.two, f.inside)

pub hope-requires : goal.hope-requires
hope-requires c = (rising_open c.loop-d.invariant.0 c.loop-d-test.true c.wide-i.ensures c.sound_of-node.ensures, c.requires.2)

pub returns-then-hope : goal.returns-then-hope
returns-then-hope c = (rising_found c.loop-d.invariant.0 c.loop-d-test.true c.wide-i.ensures c.sound_of-node.ensures (says_true c.hope.result c.if-hope.true c.hope.ensures), carries_pop c.loop-d.invariant.0.path c.loop-d.invariant.1 c.loop-d-test.true c.wide-i.ensures c.event_of-low.ensures c.remove.auto.ws c.remove.ensures, parts_pop c.loop-d.invariant.0.path c.loop-d.invariant.1 c.loop-d-test.true c.wide-i.ensures c.event_of-low.ensures c.loop-d.invariant.2 c.remove.ensures c.sound_of-node.ensures, shorter_pop c.loop-d.invariant.0.path c.loop-d.invariant.1 c.loop-d-test.true c.wide-i.ensures c.event_of-low.ensures c.loop-d.invariant.2 c.remove.ensures c.sound_of-node.ensures)

pub loop-d-preserved : goal.loop-d-preserved
loop-d-preserved c = (rising_more c.loop-d.invariant.0 c.loop-d-test.true c.wide-i.ensures c.sound_of-node.ensures (says_false c.hope.result c.if-hope.false c.hope.ensures), carries_pop c.loop-d.invariant.0.path c.loop-d.invariant.1 c.loop-d-test.true c.wide-i.ensures c.event_of-low.ensures c.remove.auto.ws c.remove.ensures, trim_pop c.loop-d.invariant.0.path c.loop-d.invariant.1 c.loop-d-test.true c.wide-i.ensures c.event_of-low.ensures c.loop-d.invariant.2 c.remove.ensures)

pub returns : goal.returns
returns c = rising_end c.loop-d.invariant.0 (omega arith) c.loop-d.invariant.1
