-- `sizes::largest_size` meets its contract. Assumes nothing.
use native.Mathlib.Omega.{arith}
use mathlib.Core.Path.{refl}
use Rattle.sizes.proofs.Pass.{turn_two, turn_low, turn_failed, turn_sound, deep_start, deep_small, deep_step, deep_end, length_two}
use Rattle.sizes.proofs.largest_size.Goals as goal

pub loop-i-init : goal.loop-i-init
loop-i-init c = deep_start _ _ _ c.requires.root_in_bounds.1

pub failed_of-f-requires : goal.failed_of-f-requires
failed_of-f-requires c =
    let held = c.requires.held.0 in
    let two = turn_two held c.requires.held.1 c.loop-i-test.true refl in
    let low = turn_low held c.requires.held.1 c.loop-i-test.true refl in
    (two, omega (arith, held.fits, held.within))

pub sound_of-s-requires : goal.sound_of-s-requires
sound_of-s-requires c =
    let held = c.requires.held.0 in
    let two = turn_two held c.requires.held.1 c.loop-i-test.true refl in
    let low = turn_low held c.requires.held.1 c.loop-i-test.true refl in
    (two, omega (arith, held.fits, held.within))

pub bounds-work-f : goal.bounds-work-f
bounds-work-f c =
    let below = turn_failed c.requires.held.0 c.requires.held.1 c.loop-i-test.true refl c.failed_of-f.ensures refl in
    let low = turn_low c.requires.held.0 c.requires.held.1 c.loop-i-test.true refl in
    omega (arith, c.requires.root_in_bounds.0, length_two c.args.work.now 0 0 1 0)

pub overflow_add-work : goal.overflow_add-work
overflow_add-work c =
    let few = deep_small c.requires.held.0 c.requires.held.1 c.loop-i-test.true refl c.failed_of-f.ensures refl c.loop-i.invariant c.requires.held.2 in
    omega arith

pub bounds-work-s : goal.bounds-work-s
bounds-work-s c =
    let below = turn_sound c.requires.held.0 c.requires.held.1 c.loop-i-test.true refl refl c.sound_of-s.ensures in
    let low = turn_low c.requires.held.0 c.requires.held.1 c.loop-i-test.true refl in
    omega (arith, c.requires.root_in_bounds.0, length_two c.args.work.now 0 0 1 0)

pub bounds-work-i : goal.bounds-work-i
bounds-work-i c =
    let low = turn_low c.requires.held.0 c.requires.held.1 c.loop-i-test.true refl in
    omega (arith, c.requires.root_in_bounds.0, length_two c.args.work.now 0 0 1 0)

pub loop-i-preserved : goal.loop-i-preserved
loop-i-preserved c =
    let low = turn_low c.requires.held.0 c.requires.held.1 c.loop-i-test.true refl in
    deep_step c.requires.held.0 c.requires.held.1 c.loop-i-test.true refl c.failed_of-f.ensures c.sound_of-s.ensures c.loop-i.invariant
    (omega (arith, c.requires.root_in_bounds.0, length_two c.args.work.now 0 0 1 0)) refl refl c.max.ensures

pub returns : goal.returns
returns c = deep_end c.requires.held.1 c.loop-i.invariant (omega arith)
