-- `writing::emission::emit` meets its contract.
-- Assumes nothing.
use mathlib.Core.Path.{sym, ◌∙◌}
use native.Mathlib.Omega.{arith}
use Rattle.rules.proofs.Cases.{width_small}
use Rattle.records.proofs.Runs.{running_bounded}
use Rattle.judging.proofs.Following.{next_is}
use Rattle.writing.proofs.Emitting.{emit_start, emit_inside, emit_room, emit_sound, emit_event, emit_gate, emit_input, emit_done, emit_never, emit_same}
use Rattle.writing.proofs.emission.emit.Goals as goal

pub loop-sited-init : goal.loop-sited-init
loop-sited-init c = rw c.begin-s.ensures (emit_start c.args.t c.args.room.now c.requires.1)

pub offset_bounds-t-n : goal.offset_bounds-t-n
offset_bounds-t-n c = omega (arith, c.within-n.ensures.inside)

pub bounds-t-n : goal.bounds-t-n
bounds-t-n c = c.within-n.ensures.inside

pub tree_record-r-requires : goal.tree_record-r-requires
tree_record-r-requires c = running_bounded c.loop-sited.invariant.running

pub slice_bounds-put-count : goal.slice_bounds-put-count
slice_bounds-put-count c = emit_inside c.loop-sited.invariant

pub slice_bounds-put-start : goal.slice_bounds-put-start
slice_bounds-put-start c = emit_inside c.loop-sited.invariant

pub slice_bounds-put-end : goal.slice_bounds-put-end
slice_bounds-put-end c = omega (arith, emit_inside c.loop-sited.invariant)

pub put-requires : goal.put-requires
put-requires c = emit_room c.loop-sited.invariant (next_is c.loop-sited.invariant.following c.within-n.ensures c.tree_record-r.ensures.0)

pub overflow_add-at : goal.overflow_add-at
overflow_add-at c = omega (arith, width_small c.tree_record-r.result, c.width.ensures, c.loop-sited.invariant.following.low, running_bounded c.loop-sited.invariant.running)

pub admit-requires : goal.admit-requires
admit-requires c = (running_bounded c.loop-sited.invariant.running, omega (arith, c.width.ensures))

pub past_event-s-requires : goal.past_event-s-requires
past_event-s-requires c = running_bounded c.loop-sited.invariant.running

pub loop-sited-smaller-in-Ok-AddEvent : goal.loop-sited-smaller-in-Ok-AddEvent
loop-sited-smaller-in-Ok-AddEvent c = rw c.past_event-s.ensures (omega (arith, emit_sound c.loop-sited.invariant (next_is c.loop-sited.invariant.following c.within-n.ensures c.tree_record-r.ensures.0) c.tree_record-r.ensures.1 c.put.ensures (rw c.in-Ok-AddEvent.field-0-is at (sym c.in-Ok-AddEvent.is ∙ (rw c.width.ensures at c.admit.ensures)))))

pub loop-sited-preserved-in-Ok-AddEvent : goal.loop-sited-preserved-in-Ok-AddEvent
loop-sited-preserved-in-Ok-AddEvent c = rw c.past_event-s.ensures (emit_event c.loop-sited.invariant (next_is c.loop-sited.invariant.following c.within-n.ensures c.tree_record-r.ensures.0) c.tree_record-r.ensures.1 c.put.ensures _ _ _ _ (rw c.in-Ok-AddEvent.field-0-is at (sym c.in-Ok-AddEvent.is ∙ (rw c.width.ensures at c.admit.ensures))))

pub past_gate-s-requires : goal.past_gate-s-requires
past_gate-s-requires c = running_bounded c.loop-sited.invariant.running

pub loop-sited-smaller-in-Ok-AddGate : goal.loop-sited-smaller-in-Ok-AddGate
loop-sited-smaller-in-Ok-AddGate c = rw c.past_gate-s.ensures (omega (arith, emit_sound c.loop-sited.invariant (next_is c.loop-sited.invariant.following c.within-n.ensures c.tree_record-r.ensures.0) c.tree_record-r.ensures.1 c.put.ensures (rw c.in-Ok-AddGate.field-0-is at (sym c.in-Ok-AddGate.is ∙ (rw c.width.ensures at c.admit.ensures)))))

pub loop-sited-preserved-in-Ok-AddGate : goal.loop-sited-preserved-in-Ok-AddGate
loop-sited-preserved-in-Ok-AddGate c = rw c.past_gate-s.ensures (emit_gate c.loop-sited.invariant (next_is c.loop-sited.invariant.following c.within-n.ensures c.tree_record-r.ensures.0) c.tree_record-r.ensures.1 c.put.ensures _ _ _ _ (rw c.in-Ok-AddGate.field-0-is at (sym c.in-Ok-AddGate.is ∙ (rw c.width.ensures at c.admit.ensures))))

pub past_input-s-requires : goal.past_input-s-requires
past_input-s-requires c = (running_bounded c.loop-sited.invariant.running, (emit_sound c.loop-sited.invariant (next_is c.loop-sited.invariant.following c.within-n.ensures c.tree_record-r.ensures.0) c.tree_record-r.ensures.1 c.put.ensures (rw c.in-Ok-AddInput.field-0-is at (sym c.in-Ok-AddInput.is ∙ (rw c.width.ensures at c.admit.ensures)))).some)

pub loop-sited-smaller : goal.loop-sited-smaller
loop-sited-smaller c = rw c.past_input-s.ensures (omega (arith, emit_sound c.loop-sited.invariant (next_is c.loop-sited.invariant.following c.within-n.ensures c.tree_record-r.ensures.0) c.tree_record-r.ensures.1 c.put.ensures (rw c.in-Ok-AddInput.field-0-is at (sym c.in-Ok-AddInput.is ∙ (rw c.width.ensures at c.admit.ensures)))))

pub loop-sited-preserved : goal.loop-sited-preserved
loop-sited-preserved c = rw c.past_input-s.ensures (emit_input c.loop-sited.invariant (next_is c.loop-sited.invariant.following c.within-n.ensures c.tree_record-r.ensures.0) c.tree_record-r.ensures.1 c.put.ensures c.requires.0 _ _ (rw c.in-Ok-AddInput.field-0-is at (sym c.in-Ok-AddInput.is ∙ (rw c.width.ensures at c.admit.ensures))))

pub shape_of-room-in-Ok-Close : goal.shape_of-room-in-Ok-Close
shape_of-room-in-Ok-Close c = emit_same c.loop-sited.invariant (next_is c.loop-sited.invariant.following c.within-n.ensures c.tree_record-r.ensures.0) c.tree_record-r.ensures.1 c.put.ensures

pub returns-in-Ok-Close : goal.returns-in-Ok-Close
returns-in-Ok-Close c = emit_done c.loop-sited.invariant (next_is c.loop-sited.invariant.following c.within-n.ensures c.tree_record-r.ensures.0) c.tree_record-r.ensures.1 c.put.ensures (rw c.in-Ok-Close.field-0-is at (sym c.in-Ok-Close.is ∙ (rw c.width.ensures at c.admit.ensures)))

pub shape_of-room-in-Err : goal.shape_of-room-in-Err
shape_of-room-in-Err c = emit_same c.loop-sited.invariant (next_is c.loop-sited.invariant.following c.within-n.ensures c.tree_record-r.ensures.0) c.tree_record-r.ensures.1 c.put.ensures

pub returns-in-Err : goal.returns-in-Err
returns-in-Err c = absurd (emit_never c.loop-sited.invariant (next_is c.loop-sited.invariant.following c.within-n.ensures c.tree_record-r.ensures.0) c.tree_record-r.ensures.1 c.put.ensures c.requires.0 _ (sym c.in-Err.is ∙ (rw c.width.ensures at c.admit.ensures)))
