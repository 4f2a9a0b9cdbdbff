-- `depthfirst::walk_on` meets its contract. Assumes nothing.
use native.Mathlib.Omega.{arith}
use mathlib.Core.Path.{refl, ◌∙◌}
use Prim.Native.Nat.{◌-◌}
use lib.ListN.{length-set}
use Rattle.depthfirst.proofs.Small.{opened_marks, opened_stack, opened_places, closed_marks, closed_order}
use Rattle.depthfirst.proofs.Going.{seen_before, going_start, going_end}
use Rattle.depthfirst.proofs.Turns.{top_room, top_inside, listed, leave_turn, place_inside, input_inside, ring_stands, ring_turn, open_room, open_turn}
use Rattle.depthfirst.proofs.walk_on.Goals as goal

pub returns-then-mark-root-ge2 : goal.returns-then-mark-root-ge2
returns-then-mark-root-ge2 c = seen_before c.requires.rooms c.requires.idle c.requires.root_lt_count c.if-mark-root-ge2.true

pub loop-depth-init : goal.loop-depth-init
loop-depth-init c = (going_start c.requires.rooms c.requires.idle c.requires.root_lt_count c.if-mark-root-ge2.false c.enter.ensures, refl, refl, refl, refl)

pub offset_bounds-stack-top : goal.offset_bounds-stack-top
offset_bounds-stack-top c = omega (arith, top_room c.requires.arrays c.loop-depth.invariant.0 c.loop-depth-test.true, c.ranges.count)

pub bounds-stack-top : goal.bounds-stack-top
bounds-stack-top c = omega (arith, top_room c.requires.arrays c.loop-depth.invariant.0 c.loop-depth-test.true, c.loop-depth.invariant.0.rooms.stack)

pub offset_bounds-at-top : goal.offset_bounds-at-top
offset_bounds-at-top c = omega (arith, top_room c.requires.arrays c.loop-depth.invariant.0 c.loop-depth-test.true, c.ranges.count)

pub bounds-at-top : goal.bounds-at-top
bounds-at-top c = omega (arith, top_room c.requires.arrays c.loop-depth.invariant.0 c.loop-depth-test.true, c.loop-depth.invariant.0.rooms.places)

pub bounds-starts-next : goal.bounds-starts-next
bounds-starts-next c = omega (arith, top_inside c.requires.arrays c.loop-depth.invariant.0 c.loop-depth-test.true, c.requires.arrays.long)

pub pass-requires : goal.pass-requires
pass-requires c = listed c.requires.arrays c.loop-depth.invariant.0 c.loop-depth-test.true

pub bounds-inputs-q : goal.bounds-inputs-q
bounds-inputs-q c = place_inside c.requires.arrays c.loop-depth.invariant.0 c.loop-depth-test.true c.in-Some.ensures.1 c.in-Some.ensures.0

pub place-from-requires : goal.place-from-requires
place-from-requires c =
    record {
      stands = ring_stands c.requires.arrays c.loop-depth.invariant.0 c.loop-depth-test.true c.in-Some.ensures.1 c.in-Some.ensures.0 c.if-mark-y-eq1.true;
      depth_in_bounds = omega (arith, top_room c.requires.arrays c.loop-depth.invariant.0 c.loop-depth-test.true, c.loop-depth.invariant.0.rooms.stack);
    }

pub returns-then-mark-y-eq1 : goal.returns-then-mark-y-eq1
returns-then-mark-y-eq1 c = ring_turn c.requires.arrays c.loop-depth.invariant.0 c.loop-depth-test.true c.in-Some.ensures.1 c.in-Some.ensures.0 c.place-from.ensures.0 c.place-from.ensures.1

pub offset_bounds-at-top-in-Some : goal.offset_bounds-at-top-in-Some
offset_bounds-at-top-in-Some c = omega (arith, top_room c.requires.arrays c.loop-depth.invariant.0 c.loop-depth-test.true, c.ranges.count)

pub bounds-at-top-in-Some : goal.bounds-at-top-in-Some
bounds-at-top-in-Some c = omega (arith, top_room c.requires.arrays c.loop-depth.invariant.0 c.loop-depth-test.true, c.loop-depth.invariant.0.rooms.places)

pub enter-requires-in-Some : goal.enter-requires-in-Some
enter-requires-in-Some c = (omega (arith, input_inside c.requires.arrays c.loop-depth.invariant.0 c.loop-depth-test.true c.in-Some.ensures.1 c.in-Some.ensures.0, c.requires.arrays.long), omega (arith, input_inside c.requires.arrays c.loop-depth.invariant.0 c.loop-depth-test.true c.in-Some.ensures.1 c.in-Some.ensures.0, c.loop-depth.invariant.0.rooms.marks), omega (arith, open_room c.requires.arrays c.loop-depth.invariant.0 c.loop-depth-test.true c.in-Some.ensures.1 c.in-Some.ensures.0 c.if-mark-y-eq1.false, c.loop-depth.invariant.0.rooms.stack), simp length-set (omega (arith, open_room c.requires.arrays c.loop-depth.invariant.0 c.loop-depth-test.true c.in-Some.ensures.1 c.in-Some.ensures.0 c.if-mark-y-eq1.false, c.loop-depth.invariant.0.rooms.places)))

pub overflow_add-depth : goal.overflow_add-depth
overflow_add-depth c = omega (arith, open_room c.requires.arrays c.loop-depth.invariant.0 c.loop-depth-test.true c.in-Some.ensures.1 c.in-Some.ensures.0 c.if-mark-y-eq1.false, c.ranges.count)

pub loop-depth-smaller-in-Some : goal.loop-depth-smaller-in-Some
loop-depth-smaller-in-Some c = omega (arith, open_room c.requires.arrays c.loop-depth.invariant.0 c.loop-depth-test.true c.in-Some.ensures.1 c.in-Some.ensures.0 c.if-mark-y-eq1.false)

pub loop-depth-preserved-in-Some : goal.loop-depth-preserved-in-Some
loop-depth-preserved-in-Some c = (open_turn c.requires.arrays c.loop-depth.invariant.0 c.loop-depth-test.true c.in-Some.ensures.1 c.in-Some.ensures.0 c.if-mark-y-eq1.false c.enter-in-Some.ensures, opened_marks c.enter-in-Some.ensures ∙ c.loop-depth.invariant.1, opened_stack c.enter-in-Some.ensures ∙ c.loop-depth.invariant.2, opened_places c.enter-in-Some.ensures ∙ length-set c.loop-depth.at (c.loop-depth.depth - 1) c.in-Some.q ∙ c.loop-depth.invariant.3, c.loop-depth.invariant.4)

pub leave-requires : goal.leave-requires
leave-requires c = (omega (arith, top_inside c.requires.arrays c.loop-depth.invariant.0 c.loop-depth-test.true, c.loop-depth.invariant.0.rooms.marks), omega (arith, top_room c.requires.arrays c.loop-depth.invariant.0 c.loop-depth-test.true, c.loop-depth-test.true, c.loop-depth.invariant.0.rooms.order))

pub overflow_add-n : goal.overflow_add-n
overflow_add-n c = omega (arith, top_room c.requires.arrays c.loop-depth.invariant.0 c.loop-depth-test.true, c.loop-depth-test.true, c.ranges.count)

pub loop-depth-smaller : goal.loop-depth-smaller
loop-depth-smaller c = omega (arith, top_room c.requires.arrays c.loop-depth.invariant.0 c.loop-depth-test.true, c.loop-depth-test.true)

pub loop-depth-preserved : goal.loop-depth-preserved
loop-depth-preserved c = (leave_turn c.requires.arrays c.loop-depth.invariant.0 c.loop-depth-test.true c.in-None.ensures (omega arith) c.leave.ensures, closed_marks c.leave.ensures ∙ c.loop-depth.invariant.1, c.loop-depth.invariant.2, c.loop-depth.invariant.3, closed_order c.leave.ensures ∙ c.loop-depth.invariant.4)

pub returns : goal.returns
returns c = going_end c.loop-depth.invariant.0 (omega arith)
