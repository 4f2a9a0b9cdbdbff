-- `review::product_on` meets its contract. Assumes nothing.
use mathlib.Core.Path.{refl}
use native.Mathlib.Omega.{arith}
use Rattle.review.proofs.Hopes.{multiplied_start, multiplied_more, multiplied_end, entry_low}
use Rattle.review.proofs.Turns.{depth_few}
use Rattle.review.proofs.product_on.Goals as goal

pub loop-k-init : goal.loop-k-init
loop-k-init c = multiplied_start c.requires.3 c.requires.4

pub offset_bounds-path-k : goal.offset_bounds-path-k
offset_bounds-path-k c = omega (arith, c.requires.0.deep, c.loop-k-test.true, c.well_formed)

pub bounds-path-k : goal.bounds-path-k
bounds-path-k c = omega (arith, c.requires.0.deep, c.loop-k-test.true)

pub event_of-e-requires : goal.event_of-e-requires
event_of-e-requires c = let q = entry_low c.requires.0 c.loop-k.k c.loop-k-test.true c.wide-i.ensures refl in (q.1, q.0)

pub overflow_add-k : goal.overflow_add-k
overflow_add-k c = omega (arith, depth_few c.requires.0, c.requires.0.lent.few_events, c.loop-k-test.true)

pub offset_bounds-chances-e : goal.offset_bounds-chances-e
offset_bounds-chances-e c = let q = entry_low c.requires.0 c.loop-k.k c.loop-k-test.true c.wide-i.ensures c.event_of-e.ensures in omega (arith, q.2, c.requires.1, c.well_formed)

pub bounds-chances-e : goal.bounds-chances-e
bounds-chances-e c = let q = entry_low c.requires.0 c.loop-k.k c.loop-k-test.true c.wide-i.ensures c.event_of-e.ensures in omega (arith, q.2, c.requires.1)

pub scale-requires : goal.scale-requires
scale-requires c = let q = entry_low c.requires.0 c.loop-k.k c.loop-k-test.true c.wide-i.ensures c.event_of-e.ensures in let h = c.requires.2.each c.event_of-e.result q.2 in (c.loop-k.invariant.digits, omega (arith, c.loop-k.invariant.long, c.requires.5, depth_few c.requires.0, c.loop-k-test.true), omega (arith, c.from.ensures))

pub loop-k-preserved : goal.loop-k-preserved
loop-k-preserved c = multiplied_more c.loop-k.invariant c.loop-k-test.true c.requires.0.deep c.wide-i.ensures c.event_of-e.ensures c.from.ensures c.scale.ensures.0 c.scale.ensures.1 c.scale.auto.ds

pub shape_of-ds : goal.shape_of-ds
shape_of-ds c = c.loop-k.invariant.long

pub returns : goal.returns
returns c = multiplied_end c.loop-k.invariant c.loop-k-test.false
