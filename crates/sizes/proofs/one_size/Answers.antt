-- `sizes::one_size` meets its contract. Assumes nothing.
use native.Mathlib.Omega.{arith}
use mathlib.Core.Path.{refl, ◌∙◌}
use Rattle.sizes.proofs.Pass.{turn_two, turn_low, turn_failed, turn_sound, passing_start, passing_step, passing_over, passing_end, passed_fits, passed_over, length_two}
use Rattle.sizes.proofs.Counts.{single_is}
use Rattle.sizes.proofs.one_size.Goals as goal

pub loop-i-init : goal.loop-i-init
loop-i-init c = passing_start _ _ _ _ _ c.requires.root_in_bounds.2 (c.from.ensures ∙ single_is c.args.k)

pub failed_of-f-requires : goal.failed_of-f-requires
failed_of-f-requires c =
    let held = c.requires.held.0 in
    let two = turn_two held c.requires.held.1 c.loop-i-test.true refl in
    let low = turn_low held c.requires.held.1 c.loop-i-test.true refl in
    (two, omega (arith, held.fits, held.within))

pub sound_of-s-requires : goal.sound_of-s-requires
sound_of-s-requires c =
    let held = c.requires.held.0 in
    let two = turn_two held c.requires.held.1 c.loop-i-test.true refl in
    let low = turn_low held c.requires.held.1 c.loop-i-test.true refl in
    (two, omega (arith, held.fits, held.within))

pub add-requires : goal.add-requires
add-requires c =
    let low = turn_low c.requires.held.0 c.requires.held.1 c.loop-i-test.true refl in
    let failed = turn_failed c.requires.held.0 c.requires.held.1 c.loop-i-test.true refl c.failed_of-f.ensures c.sound_of-s.ensures in
    let sound = turn_sound c.requires.held.0 c.requires.held.1 c.loop-i-test.true refl c.failed_of-f.ensures c.sound_of-s.ensures in
    let same = c.loop-i.auto.work ∙ length_two c.args.work.now 0 0 1 _ in
    (omega (arith, c.requires.root_in_bounds.1), omega (arith, c.requires.root_in_bounds.0), omega (arith, c.requires.root_in_bounds.1))

pub returns-in_err-add : goal.returns-in_err-add
returns-in_err-add c =
    rw c.from_residual.ensures
    (passed_over (passing_over c.requires.held.0 c.requires.held.1 c.loop-i-test.true refl c.failed_of-f.ensures c.sound_of-s.ensures c.requires.held.2 c.loop-i.invariant c.add.ensures c.in_err-add.was))

pub loop-i-preserved : goal.loop-i-preserved
loop-i-preserved c =
    let low = turn_low c.requires.held.0 c.requires.held.1 c.loop-i-test.true refl in
    let same = c.loop-i.auto.work ∙ length_two c.args.work.now 0 0 1 _ in
    passing_step c.requires.held.0 c.requires.held.1 c.loop-i-test.true refl c.failed_of-f.ensures c.sound_of-s.ensures c.requires.held.2 c.loop-i.invariant c.add.ensures c.in_ok-add.was
    (omega (arith, c.requires.root_in_bounds.1))

pub returns : goal.returns
returns c = passed_fits (passing_end c.requires.held.1 c.loop-i.invariant (omega arith))
