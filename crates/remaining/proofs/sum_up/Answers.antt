-- `remaining::sum_up` meets its contract. Assumes nothing.
use mathlib.Core.Path.{refl, sym}
use native.Mathlib.Omega.{arith}
use Rattle.remaining.proofs.Answering.{room_ways, summed_over, summed_exact, cleared_now}
use Rattle.remaining.proofs.sum_up.Goals as goal

pub count_all-requires : goal.count_all-requires
count_all-requires c = (c.requires.0, (room_ways c.requires.0 c.requires.1).0, (room_ways c.requires.0 c.requires.1).1)

pub spread_all-requires : goal.spread_all-requires
spread_all-requires c = record { diagram = c.requires.0; below = omega (arith, (room_ways c.requires.0 c.requires.1).0, c.count_all.auto.below); ways = (room_ways c.requires.0 c.requires.1).2; counts = c.count_all.ensures; zeros = refl }

pub first_over-requires : goal.first_over-requires
first_over-requires c = c.requires.0.few_events

pub returns-then-first_over-events : goal.returns-then-first_over-events
returns-then-first_over-events c = summed_over c.requires.0 c.spread_all.ensures c.first_over.ensures c.if-first_over-events.true (cleared_now c.args.below.now (c.fill.ensures.after (λ y h. h)) c.count_all.auto.below) (cleared_now c.args.ways.now (c.fill-2.ensures.after (λ y h. h)) c.spread_all.auto.ways)

pub slice_bounds-write-end : goal.slice_bounds-write-end
slice_bounds-write-end c = sym c.spread_all.ensures.long

pub write-requires : goal.write-requires
write-requires c = (c.requires.0.few_events, omega (arith, c.spread_all.ensures.long), c.requires.1.counts)

pub returns : goal.returns
returns c = summed_exact c.requires.0 c.spread_all.ensures c.first_over.ensures c.if-first_over-events.false c.write.ensures (cleared_now c.args.below.now (c.fill.ensures.after (λ y h. h)) c.count_all.auto.below) (cleared_now c.args.ways.now (c.fill-2.ensures.after (λ y h. h)) c.spread_all.auto.ways)
