-- `review::weighing::likelier` meets its contract. Assumes nothing.
use native.Mathlib.Omega.{arith}
use Rattle.digits.proofs.Steps.{number_up}
use Rattle.review.proofs.Weights.{likelier_law}
use Rattle.review.proofs.weighing.likelier.Goals as goal

pub place-xs-requires : goal.place-xs-requires
place-xs-requires c = (omega arith, omega arith)

pub offset_bounds-chances-e : goal.offset_bounds-chances-e
offset_bounds-chances-e c = omega (arith, c.requires.0, c.requires.3.enough, c.well_formed)

pub bounds-chances-e : goal.bounds-chances-e
bounds-chances-e c = omega (arith, c.requires.0, c.requires.3.enough)

pub scale-requires : goal.scale-requires
scale-requires c = let h = c.requires.3.chances.each c.args.e c.requires.0 in (c.place-xs.ensures.1, omega (arith, c.place-xs.ensures.2), omega (arith, c.from.ensures))

pub likeliest-x-requires : goal.likeliest-x-requires
likeliest-x-requires c = (c.requires.1, c.requires.3, c.scale.ensures.1, omega (arith, c.requires.1.few_events, c.place-xs.ensures.2, c.scale.auto.ds))

pub place-ys-requires : goal.place-ys-requires
place-ys-requires c = (omega arith, omega arith)

pub likeliest-y-requires : goal.likeliest-y-requires
likeliest-y-requires c = (c.requires.2, c.requires.4, c.place-ys.ensures.1, omega (arith, c.requires.1.few_events, c.place-ys.ensures.2))

pub overflow_add-x : goal.overflow_add-x
overflow_add-x c = omega (arith, c.requires.1.few_events, c.likeliest-x.ensures.3)

pub lift-requires : goal.lift-requires
lift-requires c = (number_up c.likeliest-x.ensures.2 (omega arith), omega (arith, c.requires.1.few_events, c.likeliest-x.ensures.3, c.likeliest-y.ensures.3, c.place-xs.ensures.2, c.scale.auto.ds, c.likeliest-x.auto.ds))

pub overflow_add-y : goal.overflow_add-y
overflow_add-y c = omega (arith, c.requires.1.few_events, c.likeliest-x.ensures.3, c.likeliest-y.ensures.3)

pub overflow_add-x-2 : goal.overflow_add-x-2
overflow_add-x-2 c = omega (arith, c.requires.1.few_events, c.likeliest-x.ensures.3, c.likeliest-y.ensures.3)

pub lift-requires-2 : goal.lift-requires-2
lift-requires-2 c = (number_up c.likeliest-y.ensures.2 (omega arith), omega (arith, c.requires.1.few_events, c.likeliest-x.ensures.3, c.likeliest-y.ensures.3, c.place-ys.ensures.2, c.likeliest-y.auto.ds))

pub overflow_add-x-3 : goal.overflow_add-x-3
overflow_add-x-3 c = omega (arith, c.requires.1.few_events, c.likeliest-x.ensures.3, c.likeliest-y.ensures.3)

pub overflow_add-x-4 : goal.overflow_add-x-4
overflow_add-x-4 c = omega (arith, c.requires.1.few_events, c.likeliest-x.ensures.3, c.likeliest-y.ensures.3)

pub at_most-requires : goal.at_most-requires
at_most-requires c = (number_up c.lift-2.ensures.1 (omega arith), number_up c.lift.ensures.1 (omega arith), omega (arith, c.requires.1.few_events, c.likeliest-x.ensures.3, c.likeliest-y.ensures.3, c.place-ys.ensures.2, c.likeliest-y.auto.ds, c.lift-2.auto.ds), omega (arith, c.requires.1.few_events, c.likeliest-x.ensures.3, c.likeliest-y.ensures.3, c.place-xs.ensures.2, c.scale.auto.ds, c.likeliest-x.auto.ds, c.lift.auto.ds))

pub returns : goal.returns
returns c = likelier_law c.args.chances.now c.args.nodes.now c.args.e c.args.f c.args.s c.at_most.result c.place-xs.ensures.0 c.from.ensures c.scale.ensures.0 c.likeliest-x.ensures.0 c.likeliest-x.ensures.1 c.place-ys.ensures.0 c.likeliest-y.ensures.0 c.likeliest-y.ensures.1 c.lift.ensures.0 c.lift-2.ensures.0 c.at_most.ensures
