-- `survey::survey` meets its contract.
-- Assumes nothing.
use mathlib.Core.Path.{sym, ◌∙◌}
use native.Mathlib.Omega.{arith}
use Rattle.records.specs.Memory.{pad}
use Rattle.rules.proofs.Cases.{width_small}
use Rattle.records.proofs.Runs.{running_bounded}
use Rattle.judging.proofs.Following.{next_is}
use Rattle.records.proofs.Closing.{passed_on}
use Rattle.judging.proofs.Surveying.{survey_start, survey_sound, survey_event, survey_gate, survey_counted, survey_input, survey_starved, survey_ready, survey_close, survey_refused}
use Rattle.judging.proofs.survey.Goals as goal

pub loop-sited-init : goal.loop-sited-init
unfolding pad
loop-sited-init c = rw c.begin-s.ensures (survey_start c.args.t)

pub offset_bounds-t-n : goal.offset_bounds-t-n
offset_bounds-t-n c = omega (arith, c.within-n.ensures.inside)

pub bounds-t-n : goal.bounds-t-n
bounds-t-n c = c.within-n.ensures.inside

pub tree_record-r-requires : goal.tree_record-r-requires
tree_record-r-requires c = running_bounded c.loop-sited.invariant.running

pub overflow_add-at : goal.overflow_add-at
overflow_add-at c = omega (arith, width_small c.tree_record-r.result, c.width.ensures, c.loop-sited.invariant.following.low, running_bounded c.loop-sited.invariant.running)

pub admit-requires : goal.admit-requires
admit-requires c = (running_bounded c.loop-sited.invariant.running, omega (arith, c.width.ensures))

pub past_event-s-requires : goal.past_event-s-requires
past_event-s-requires c = running_bounded c.loop-sited.invariant.running

pub loop-sited-smaller-in-AddEvent : goal.loop-sited-smaller-in-AddEvent
loop-sited-smaller-in-AddEvent c = rw c.past_event-s.ensures (omega (arith, survey_sound c.loop-sited.invariant (next_is c.loop-sited.invariant.following c.within-n.ensures c.tree_record-r.ensures.0) c.tree_record-r.ensures.1 (rw c.in-AddEvent.is at (sym c.in_ok-sited.was ∙ (rw c.width.ensures at c.admit.ensures)))))

pub loop-sited-preserved-in-AddEvent : goal.loop-sited-preserved-in-AddEvent
loop-sited-preserved-in-AddEvent c = rw c.past_event-s.ensures (survey_event c.loop-sited.invariant (next_is c.loop-sited.invariant.following c.within-n.ensures c.tree_record-r.ensures.0) c.tree_record-r.ensures.1 _ _ _ _ (rw c.in-AddEvent.is at (sym c.in_ok-sited.was ∙ (rw c.width.ensures at c.admit.ensures))))

pub bounds-sizes-g : goal.bounds-sizes-g
bounds-sizes-g c = omega (arith, survey_sound c.loop-sited.invariant (next_is c.loop-sited.invariant.following c.within-n.ensures c.tree_record-r.ensures.0) c.tree_record-r.ensures.1 (rw c.in-AddGate.is at (sym c.in_ok-sited.was ∙ (rw c.width.ensures at c.admit.ensures))))

pub offset_bounds-places-g : goal.offset_bounds-places-g
offset_bounds-places-g c = omega (arith, running_bounded c.loop-sited.invariant.running)

pub bounds-places-g : goal.bounds-places-g
bounds-places-g c = omega (arith, survey_sound c.loop-sited.invariant (next_is c.loop-sited.invariant.following c.within-n.ensures c.tree_record-r.ensures.0) c.tree_record-r.ensures.1 (rw c.in-AddGate.is at (sym c.in_ok-sited.was ∙ (rw c.width.ensures at c.admit.ensures))))

pub past_gate-s-requires : goal.past_gate-s-requires
past_gate-s-requires c = running_bounded c.loop-sited.invariant.running

pub loop-sited-smaller-in-AddGate : goal.loop-sited-smaller-in-AddGate
loop-sited-smaller-in-AddGate c = rw c.past_gate-s.ensures (omega (arith, survey_sound c.loop-sited.invariant (next_is c.loop-sited.invariant.following c.within-n.ensures c.tree_record-r.ensures.0) c.tree_record-r.ensures.1 (rw c.in-AddGate.is at (sym c.in_ok-sited.was ∙ (rw c.width.ensures at c.admit.ensures)))))

pub loop-sited-preserved-in-AddGate : goal.loop-sited-preserved-in-AddGate
loop-sited-preserved-in-AddGate c = rw c.past_gate-s.ensures (survey_gate c.loop-sited.invariant (next_is c.loop-sited.invariant.following c.within-n.ensures c.tree_record-r.ensures.0) c.tree_record-r.ensures.1 _ _ _ _ (rw c.in-AddGate.is at (sym c.in_ok-sited.was ∙ (rw c.width.ensures at c.admit.ensures))))

pub offset_bounds-inputs-i : goal.offset_bounds-inputs-i
offset_bounds-inputs-i c = omega (arith, running_bounded c.loop-sited.invariant.running)

pub bounds-inputs-i : goal.bounds-inputs-i
bounds-inputs-i c = omega (arith, survey_sound c.loop-sited.invariant (next_is c.loop-sited.invariant.following c.within-n.ensures c.tree_record-r.ensures.0) c.tree_record-r.ensures.1 (rw c.in-AddInput.is at (sym c.in_ok-sited.was ∙ (rw c.width.ensures at c.admit.ensures))), running_bounded c.loop-sited.invariant.running)

pub past_input-s-requires : goal.past_input-s-requires
past_input-s-requires c = (running_bounded c.loop-sited.invariant.running, (survey_sound c.loop-sited.invariant (next_is c.loop-sited.invariant.following c.within-n.ensures c.tree_record-r.ensures.0) c.tree_record-r.ensures.1 (rw c.in-AddInput.is at (sym c.in_ok-sited.was ∙ (rw c.width.ensures at c.admit.ensures)))).some)

pub starved-requires : goal.starved-requires
starved-requires c = rw c.past_input-s.ensures (survey_counted c.loop-sited.invariant (next_is c.loop-sited.invariant.following c.within-n.ensures c.tree_record-r.ensures.0) c.tree_record-r.ensures.1 (rw c.in-AddInput.is at (sym c.in_ok-sited.was ∙ (rw c.width.ensures at c.admit.ensures))))

pub overflow_sub-gate : goal.overflow_sub-gate
overflow_sub-gate c = (survey_counted c.loop-sited.invariant (next_is c.loop-sited.invariant.following c.within-n.ensures c.tree_record-r.ensures.0) c.tree_record-r.ensures.1 (rw c.in-AddInput.is at (sym c.in_ok-sited.was ∙ (rw c.width.ensures at c.admit.ensures)))).some

pub offset_bounds-places-g-then-starved : goal.offset_bounds-places-g-then-starved
offset_bounds-places-g-then-starved c = omega (arith, survey_counted c.loop-sited.invariant (next_is c.loop-sited.invariant.following c.within-n.ensures c.tree_record-r.ensures.0) c.tree_record-r.ensures.1 (rw c.in-AddInput.is at (sym c.in_ok-sited.was ∙ (rw c.width.ensures at c.admit.ensures))))

pub bounds-places-g-then-starved : goal.bounds-places-g-then-starved
bounds-places-g-then-starved c = omega (arith, survey_counted c.loop-sited.invariant (next_is c.loop-sited.invariant.following c.within-n.ensures c.tree_record-r.ensures.0) c.tree_record-r.ensures.1 (rw c.in-AddInput.is at (sym c.in_ok-sited.was ∙ (rw c.width.ensures at c.admit.ensures))))

pub returns-then-starved : goal.returns-then-starved
returns-then-starved c = survey_starved c.loop-sited.invariant (next_is c.loop-sited.invariant.following c.within-n.ensures c.tree_record-r.ensures.0) c.tree_record-r.ensures.1 (rw c.in-AddInput.is at (sym c.in_ok-sited.was ∙ (rw c.width.ensures at c.admit.ensures))) (sym (rw c.past_input-s.ensures at c.starved.ensures) ∙ c.if-starved.true)

pub loop-sited-smaller : goal.loop-sited-smaller
loop-sited-smaller c = rw c.past_input-s.ensures (omega (arith, survey_sound c.loop-sited.invariant (next_is c.loop-sited.invariant.following c.within-n.ensures c.tree_record-r.ensures.0) c.tree_record-r.ensures.1 (rw c.in-AddInput.is at (sym c.in_ok-sited.was ∙ (rw c.width.ensures at c.admit.ensures)))))

pub loop-sited-preserved : goal.loop-sited-preserved
loop-sited-preserved c = rw c.past_input-s.ensures (survey_input c.loop-sited.invariant (next_is c.loop-sited.invariant.following c.within-n.ensures c.tree_record-r.ensures.0) c.tree_record-r.ensures.1 (rw c.in-AddInput.is at (sym c.in_ok-sited.was ∙ (rw c.width.ensures at c.admit.ensures))) (sym (rw c.past_input-s.ensures at c.starved.ensures) ∙ c.if-starved.false))

pub unused_in-requires : goal.unused_in-requires
unused_in-requires c = survey_ready c.loop-sited.invariant (next_is c.loop-sited.invariant.following c.within-n.ensures c.tree_record-r.ensures.0) c.tree_record-r.ensures.1 (rw c.in-Close.is at (sym c.in_ok-sited.was ∙ (rw c.width.ensures at c.admit.ensures)))

pub overflow_add-at-in-Close : goal.overflow_add-at-in-Close
overflow_add-at-in-Close c = omega (arith, c.loop-sited.invariant.following.low, running_bounded c.loop-sited.invariant.running)

pub returns-in-Close : goal.returns-in-Close
returns-in-Close c = survey_close c.loop-sited.invariant (next_is c.loop-sited.invariant.following c.within-n.ensures c.tree_record-r.ensures.0) c.tree_record-r.ensures.1 (rw c.in-Close.is at (sym c.in_ok-sited.was ∙ (rw c.width.ensures at c.admit.ensures))) _ c.unused_in.ensures c.surveyed.ensures

pub returns-in_err-sited : goal.returns-in_err-sited
returns-in_err-sited c = survey_refused c.loop-sited.invariant (next_is c.loop-sited.invariant.following c.within-n.ensures c.tree_record-r.ensures.0) c.tree_record-r.ensures.1 _ (sym c.in_err-sited.was ∙ (rw c.width.ensures at c.admit.ensures)) (passed_on c.from_residual.ensures.1)
