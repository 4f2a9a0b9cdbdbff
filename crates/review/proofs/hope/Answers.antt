-- `review::hope` meets its contract. Assumes nothing.
use native.Mathlib.Omega.{arith}
use Rattle.digits.proofs.Steps.{number_up}
use Rattle.walk.proofs.Paths.{open_leaf}
use Rattle.review.proofs.Weights.{picks_fewer, few_small}
use Rattle.review.proofs.Turns.{depth_few}
use Rattle.review.proofs.Hopes.{hope_short, hope_long, hope_exact}
use Rattle.review.proofs.hope.Goals as goal

pub few_in-requires : goal.few_in-requires
few_in-requires c = λ h. omega (arith, c.requires.1.fews.room, c.requires.0.lent.root_in)

pub overflow_add-depth : goal.overflow_add-depth
overflow_add-depth c = let h = few_small c.requires.1.fews c.args.at c.requires.0.lent.root_in in omega (arith, depth_few c.requires.0, c.requires.0.lent.few_events, c.few_in.ensures)

pub returns-then-depth-few_in-le2 : goal.returns-then-depth-few_in-le2
returns-then-depth-few_in-le2 c = hope_short c.requires.0 c.requires.1 c.args.edition c.few_in.ensures c.if-depth-few_in-le2.true

pub returns-then-edition-ne2 : goal.returns-then-edition-ne2
returns-then-edition-ne2 c = hope_long c.requires.0 c.requires.1 c.args.edition c.few_in.ensures c.if-depth-few_in-le2.false c.if-edition-ne2.true

pub place-ds-requires : goal.place-ds-requires
place-ds-requires c = (omega arith, omega arith)

pub product_on-requires : goal.product_on-requires
product_on-requires c = (open_leaf c.requires.0, c.requires.1.picks.enough, c.requires.1.picks.chances, c.place-ds.ensures.0, c.place-ds.ensures.1, omega (arith, c.requires.0.lent.few_events, c.place-ds.ensures.2))

pub overflow_add-depth-2 : goal.overflow_add-depth-2
overflow_add-depth-2 c = omega (arith, depth_few c.requires.0, c.requires.0.lent.few_events)

pub likeliest-m-requires : goal.likeliest-m-requires
likeliest-m-requires c = (c.requires.0.lent, picks_fewer c.requires.1.picks (omega (arith, c.requires.0.lent.root_in)), c.product_on.ensures.1, omega (arith, depth_few c.requires.0, c.requires.0.lent.few_events, c.place-ds.ensures.2, c.product_on.auto.ds))

pub overflow_add-depth-3 : goal.overflow_add-depth-3
overflow_add-depth-3 c = omega (arith, depth_few c.requires.0, c.requires.0.lent.few_events, c.likeliest-m.ensures.3)

pub overflow_add-depth-4 : goal.overflow_add-depth-4
overflow_add-depth-4 c = omega (arith, depth_few c.requires.0, c.requires.0.lent.few_events, c.likeliest-m.ensures.3)

pub scale-requires : goal.scale-requires
scale-requires c = (number_up c.likeliest-m.ensures.2 (omega arith), omega (arith, depth_few c.requires.0, c.requires.0.lent.few_events, c.likeliest-m.ensures.3, c.place-ds.ensures.2, c.product_on.auto.ds, c.likeliest-m.auto.ds), omega arith)

pub overflow_add-depth-5 : goal.overflow_add-depth-5
overflow_add-depth-5 c = omega (arith, depth_few c.requires.0, c.requires.0.lent.few_events, c.likeliest-m.ensures.3)

pub place-edge-requires : goal.place-edge-requires
place-edge-requires c = (omega arith, omega (arith, depth_few c.requires.0, c.requires.0.lent.few_events, c.likeliest-m.ensures.3))

pub overflow_add-depth-6 : goal.overflow_add-depth-6
overflow_add-depth-6 c = omega (arith, depth_few c.requires.0, c.requires.0.lent.few_events, c.likeliest-m.ensures.3)

pub overflow_add-depth-7 : goal.overflow_add-depth-7
overflow_add-depth-7 c = omega (arith, depth_few c.requires.0, c.requires.0.lent.few_events, c.likeliest-m.ensures.3)

pub at_most-requires : goal.at_most-requires
at_most-requires c = (number_up c.place-edge.ensures.1 (omega arith), number_up c.scale.ensures.1 (omega arith), omega (arith, depth_few c.requires.0, c.requires.0.lent.few_events, c.likeliest-m.ensures.3, c.place-edge.ensures.2), omega (arith, depth_few c.requires.0, c.requires.0.lent.few_events, c.likeliest-m.ensures.3, c.place-ds.ensures.2, c.product_on.auto.ds, c.likeliest-m.auto.ds, c.scale.auto.ds))

pub returns : goal.returns
returns c = hope_exact c.requires.0 c.requires.1 c.args.edition c.at_most.result c.few_in.ensures c.if-depth-few_in-le2.false c.if-edition-ne2.false c.product_on.ensures.0 c.likeliest-m.ensures.0 c.likeliest-m.ensures.1 c.scale.ensures.0 c.place-edge.ensures.0 c.at_most.ensures
