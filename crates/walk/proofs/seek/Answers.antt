-- `walk::seek` meets its contract. Assumes nothing.
use mathlib.Core.Path.{refl}
use mathlib.Core.Logic.{⊎_elim}
use lib.ListN.{length-set}
use Rattle.sets.specs.Words.{set_of}
use Rattle.walk.proofs.Paths.{room_for, fits_at, open_leaf, wide_enough}
use Rattle.walk.proofs.After.{walk_start, turn, stop_one, stop_end, stop_zero, climbed_as}
use Rattle.walk.proofs.Carry.{carries_room, carries_push, carries_empty}
use Rattle.walk.proofs.Follow.{within_on, within_put, parts_stop}
use native.Mathlib.Omega.{arith}
use Rattle.walk.proofs.seek.Goals as goal

pub loop-node-init : goal.loop-node-init
loop-node-init c = (walk_start (set_of c.args.s.now) c.requires.0, refl, c.requires.2, carries_empty c.requires.0 c.requires.2 refl)

pub event_of-e-requires : goal.event_of-e-requires
event_of-e-requires c = let f = fits_at c.loop-node.invariant.0.path c.loop-node-test.true in (f.two, f.inside)

pub lowest-low-requires : goal.lowest-low-requires
lowest-low-requires c = omega (arith, c.requires.1)

pub shape_of-path-then-low-e : goal.shape_of-path-then-low-e
shape_of-path-then-low-e c = c.loop-node.invariant.1

pub returns-then-low-e : goal.returns-then-low-e
returns-then-low-e c =
    let wide = wide_enough c.loop-node.invariant.0.path c.args.s.now c.requires.1 in let t = turn c.loop-node.invariant.0 wide c.lowest-low.ensures c.loop-node-test.true c.event_of-e.ensures refl refl in (
      t.stop c.if-low-e.true,
      c.loop-node.invariant.2,
      parts_stop c.lowest-low.ensures wide (omega (arith, t.event_low, c.if-low-e.true)) c.loop-node.invariant.3 (λ h. omega (arith, c.event_of-e.ensures, c.if-low-e.true)),
    )

pub overflow_add-i : goal.overflow_add-i
overflow_add-i c = omega (arith, (turn c.loop-node.invariant.0 (wide_enough c.loop-node.invariant.0.path c.args.s.now c.requires.1) c.lowest-low.ensures c.loop-node-test.true c.event_of-e.ensures refl refl).event_low, c.loop-node.invariant.0.path.lent.few_events)

pub sound_of-node-requires : goal.sound_of-node-requires
sound_of-node-requires c = let f = fits_at c.loop-node.invariant.0.path c.loop-node-test.true in (f.two, f.inside)

pub loop-node-smaller-then-e-low : goal.loop-node-smaller-then-e-low
loop-node-smaller-then-e-low c = (turn c.loop-node.invariant.0 (wide_enough c.loop-node.invariant.0.path c.args.s.now c.requires.1) c.lowest-low.ensures c.loop-node-test.true c.event_of-e.ensures refl c.sound_of-node.ensures).sound_less

pub loop-node-preserved-then-e-low : goal.loop-node-preserved-then-e-low
loop-node-preserved-then-e-low c =
    let t = turn c.loop-node.invariant.0 (wide_enough c.loop-node.invariant.0.path c.args.s.now c.requires.1) c.lowest-low.ensures c.loop-node-test.true c.event_of-e.ensures refl c.sound_of-node.ensures in (
      t.sound c.if-e-low.true,
      c.loop-node.invariant.1,
      c.loop-node.invariant.2,
      within_on c.loop-node.invariant.3 (omega (arith, c.loop-node.invariant.0.above c.loop-node-test.true, c.event_of-e.ensures)),
    )

pub overflow_cast-path : goal.overflow_cast-path
overflow_cast-path c = omega (arith, (fits_at c.loop-node.invariant.0.path c.loop-node-test.true).small)

pub bounds-path-depth : goal.bounds-path-depth
bounds-path-depth c = room_for c.loop-node.invariant.0.path c.loop-node-test.true

pub overflow_add-depth : goal.overflow_add-depth
overflow_add-depth c = omega (arith, room_for c.loop-node.invariant.0.path c.loop-node-test.true)

pub add-requires : goal.add-requires
add-requires c = carries_room c.loop-node.invariant.0.path c.loop-node.invariant.2 c.loop-node-test.true c.event_of-e.ensures

pub failed_of-node-requires : goal.failed_of-node-requires
failed_of-node-requires c = let f = fits_at c.loop-node.invariant.0.path c.loop-node-test.true in (f.two, f.inside)

pub loop-node-smaller : goal.loop-node-smaller
loop-node-smaller c = (turn c.loop-node.invariant.0 (wide_enough c.loop-node.invariant.0.path c.args.s.now c.requires.1) c.lowest-low.ensures c.loop-node-test.true c.event_of-e.ensures c.failed_of-node.ensures refl).failed_less

pub loop-node-preserved : goal.loop-node-preserved
loop-node-preserved c =
    let t = turn c.loop-node.invariant.0 (wide_enough c.loop-node.invariant.0.path c.args.s.now c.requires.1) c.lowest-low.ensures c.loop-node-test.true c.event_of-e.ensures c.failed_of-node.ensures refl in (
      t.failed c.if-low-e.false c.if-e-low.false,
      simp length-set c.loop-node.invariant.1,
      carries_push c.loop-node.invariant.0.path c.loop-node.invariant.2 c.loop-node-test.true c.event_of-e.ensures c.add.auto.ws c.add.ensures,
      within_put c.loop-node.invariant.3 (omega (arith, c.loop-node.invariant.0.above c.loop-node-test.true, c.event_of-e.ensures)) c.add.ensures,
    )

pub lowest-low-requires-then-node-eq1 : goal.lowest-low-requires-then-node-eq1
lowest-low-requires-then-node-eq1 c = omega (arith, c.requires.1)

pub shape_of-path-then-low-n : goal.shape_of-path-then-low-n
shape_of-path-then-low-n c = c.loop-node.invariant.1

pub returns-then-low-n : goal.returns-then-low-n
returns-then-low-n c =
    let wide = wide_enough c.loop-node.invariant.0.path c.args.s.now c.requires.1 in (
      stop_one c.loop-node.invariant.0 wide c.lowest-low-then-node-eq1.ensures c.if-node-eq1.true c.if-low-n.true,
      c.loop-node.invariant.2,
      parts_stop c.lowest-low-then-node-eq1.ensures wide c.if-low-n.true c.loop-node.invariant.3 (λ h. absurd (omega arith)),
    )

pub climb-requires : goal.climb-requires
climb-requires c = (open_leaf c.loop-node.invariant.0.path, c.loop-node.invariant.2)

pub shape_of-path : goal.shape_of-path
shape_of-path c = c.loop-node.invariant.1

pub returns : goal.returns
returns c =
    let a = c.loop-node.invariant.0 in let wide = wide_enough a.path c.args.s.now c.requires.1 in
    climbed_as _ _ _ _ _ _ c.climb.result (⊎_elim (λ t. stop_end a wide t.lowest-low-then-node-eq1.ensures t.if-low-n.false) (λ t. let z = t.if-node-eq1.false in stop_zero a (omega arith)) c.if-node-eq1.branch-raw) c.climb.ensures
