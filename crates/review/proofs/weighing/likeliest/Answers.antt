-- `review::weighing::likeliest` meets its contract. Assumes nothing.
use mathlib.Core.Path.{refl, ◌∙◌}
use native.Mathlib.Omega.{arith}
use Rattle.tables.proofs.Lent.{lent_node}
use Rattle.review.proofs.Weights.{along_start, along_sound, along_failed, along_end, along_none}
use Rattle.review.proofs.weighing.likeliest.Goals as goal

pub loop-i-init : goal.loop-i-init
loop-i-init c = along_start c.requires.0.root_in c.requires.2

pub offset_bounds-picks-i : goal.offset_bounds-picks-i
offset_bounds-picks-i c = omega (arith, c.requires.1.room, c.loop-i.invariant.inside, c.loop-i-test.true, c.well_formed)

pub bounds-picks-i : goal.bounds-picks-i
bounds-picks-i c = omega (arith, c.requires.1.room, c.loop-i.invariant.inside, c.loop-i-test.true)

pub sound_of-i-requires : goal.sound_of-i-requires
sound_of-i-requires c = (c.loop-i-test.true, omega (arith, c.requires.0.fits, c.loop-i.invariant.inside, c.loop-i-test.true))

pub loop-i-smaller-then-picks-i-eq0 : goal.loop-i-smaller-then-picks-i-eq0
loop-i-smaller-then-picks-i-eq0 c = (along_sound c.requires.0 c.loop-i.invariant c.loop-i-test.true c.sound_of-i.ensures (c.requires.1.each c.loop-i.i c.loop-i-test.true (omega (arith, c.loop-i.invariant.down))) c.if-picks-i-eq0.true).1

pub loop-i-preserved-then-picks-i-eq0 : goal.loop-i-preserved-then-picks-i-eq0
loop-i-preserved-then-picks-i-eq0 c = (along_sound c.requires.0 c.loop-i.invariant c.loop-i-test.true c.sound_of-i.ensures (c.requires.1.each c.loop-i.i c.loop-i-test.true (omega (arith, c.loop-i.invariant.down))) c.if-picks-i-eq0.true).0

pub event_of-e-requires : goal.event_of-e-requires
event_of-e-requires c = (c.loop-i-test.true, omega (arith, c.requires.0.fits, c.loop-i.invariant.inside, c.loop-i-test.true))

pub offset_bounds-chances-e : goal.offset_bounds-chances-e
offset_bounds-chances-e c = omega (arith, (lent_node c.requires.0 c.loop-i-test.true c.loop-i.invariant.inside).event, c.event_of-e.ensures, c.requires.1.enough, c.well_formed)

pub bounds-chances-e : goal.bounds-chances-e
bounds-chances-e c = omega (arith, (lent_node c.requires.0 c.loop-i-test.true c.loop-i.invariant.inside).event, c.event_of-e.ensures, c.requires.1.enough)

pub scale-requires : goal.scale-requires
scale-requires c = let h = c.requires.1.chances.each c.event_of-e.result (omega (arith, (lent_node c.requires.0 c.loop-i-test.true c.loop-i.invariant.inside).event, c.event_of-e.ensures)) in (c.loop-i.invariant.digits, omega (arith, c.loop-i.invariant.low c.loop-i-test.true, (lent_node c.requires.0 c.loop-i-test.true c.loop-i.invariant.inside).event, c.loop-i.invariant.long, c.requires.3), omega (arith, c.from.ensures))

pub overflow_add-u : goal.overflow_add-u
overflow_add-u c = omega (arith, c.loop-i.invariant.low c.loop-i-test.true, (lent_node c.requires.0 c.loop-i-test.true c.loop-i.invariant.inside).event, c.requires.3, c.well_formed)

pub failed_of-i-requires : goal.failed_of-i-requires
failed_of-i-requires c = (c.loop-i-test.true, omega (arith, c.requires.0.fits, c.loop-i.invariant.inside, c.loop-i-test.true))

pub loop-i-smaller : goal.loop-i-smaller
loop-i-smaller c = (along_failed c.requires.0 c.loop-i.invariant c.loop-i-test.true c.event_of-e.ensures c.failed_of-i.ensures c.from.ensures (c.requires.1.each c.loop-i.i c.loop-i-test.true (omega (arith, c.loop-i.invariant.down))) c.if-picks-i-eq0.false c.scale.auto.ds c.scale.ensures.0 c.scale.ensures.1).1

pub loop-i-preserved : goal.loop-i-preserved
loop-i-preserved c = (along_failed c.requires.0 c.loop-i.invariant c.loop-i-test.true c.event_of-e.ensures c.failed_of-i.ensures c.from.ensures (c.requires.1.each c.loop-i.i c.loop-i-test.true (omega (arith, c.loop-i.invariant.down))) c.if-picks-i-eq0.false c.scale.auto.ds c.scale.ensures.0 c.scale.ensures.1).0

pub scale-requires-then-i-eq0 : goal.scale-requires-then-i-eq0
scale-requires-then-i-eq0 c = (c.loop-i.invariant.digits, omega (arith, c.loop-i.invariant.high, c.loop-i.invariant.long, c.requires.3), omega arith)

pub overflow_sub-result : goal.overflow_sub-result
overflow_sub-result c = omega (arith, c.loop-i.invariant.more)

pub shape_of-ds-then-i-eq0 : goal.shape_of-ds-then-i-eq0
shape_of-ds-then-i-eq0 c = c.scale-then-i-eq0.auto.ds ∙ c.loop-i.invariant.long

pub returns-then-i-eq0 : goal.returns-then-i-eq0
returns-then-i-eq0 c = along_none c.requires.0 c.loop-i.invariant c.if-i-eq0.true refl c.scale-then-i-eq0.ensures.0 c.scale-then-i-eq0.ensures.1

pub overflow_sub-result-2 : goal.overflow_sub-result-2
overflow_sub-result-2 c = omega (arith, c.loop-i.invariant.more)

pub shape_of-ds : goal.shape_of-ds
shape_of-ds c = c.loop-i.invariant.long

pub returns : goal.returns
returns c = along_end c.requires.0 c.loop-i.invariant (omega (arith, c.loop-i-test.false, c.if-i-eq0.false)) refl
