-- `records::read` meets its contract.
-- Assumes nothing.
use mathlib.Core.Path.{sym, ◌∙◌}
use native.Mathlib.Omega.{arith}
use Rattle.records.specs.Memory.{pad}
use Rattle.records.proofs.Closing.{standing_ready, standing_unused, standing_done, with_verdict, refused_is, passed_on}
use Rattle.records.proofs.Runs.{running_bounded, running_sound, running_refused}
use Rattle.records.proofs.Standing.{standing_start, standing_event, standing_gate, standing_counted, standing_input, standing_starved}
use Rattle.records.proofs.read.Goals as goal

pub loop-chance-init : goal.loop-chance-init
unfolding pad
loop-chance-init c = rw (c.empty-t.ensures, c.begin-s.ensures) (standing_start c.args.bytes.now)

pub next-requires : goal.next-requires
next-requires c = (running_bounded c.loop-chance.invariant.running, c.loop-chance.invariant.running.within)

pub offset_bounds-t-n : goal.offset_bounds-t-n
offset_bounds-t-n c = omega (arith, running_bounded c.loop-chance.invariant.running)

pub bounds-t-n : goal.bounds-t-n
bounds-t-n c = omega (arith, running_sound c.loop-chance.invariant.running (rw c.in-AddEvent.is at (sym c.in_ok-chance.was ∙ c.next.ensures)))

pub past_event-s-requires : goal.past_event-s-requires
past_event-s-requires c = running_bounded c.loop-chance.invariant.running

pub loop-chance-smaller-in-AddEvent : goal.loop-chance-smaller-in-AddEvent
loop-chance-smaller-in-AddEvent c = rw c.past_event-s.ensures (omega (arith, running_sound c.loop-chance.invariant.running (rw c.in-AddEvent.is at (sym c.in_ok-chance.was ∙ c.next.ensures))))

pub loop-chance-preserved-in-AddEvent : goal.loop-chance-preserved-in-AddEvent
loop-chance-preserved-in-AddEvent c = rw c.past_event-s.ensures (standing_event c.loop-chance.invariant _ _ _ _ (rw c.in-AddEvent.is at (sym c.in_ok-chance.was ∙ c.next.ensures)))

pub bounds-t-g : goal.bounds-t-g
bounds-t-g c = omega (arith, running_sound c.loop-chance.invariant.running (rw c.in-AddGate.is at (sym c.in_ok-chance.was ∙ c.next.ensures)))

pub bounds-t-g-in-AddGate : goal.bounds-t-g-in-AddGate
bounds-t-g-in-AddGate c = omega (arith, running_sound c.loop-chance.invariant.running (rw c.in-AddGate.is at (sym c.in_ok-chance.was ∙ c.next.ensures)))

pub bounds-t-g-in-AddGate-2 : goal.bounds-t-g-in-AddGate-2
bounds-t-g-in-AddGate-2 c = omega (arith, running_sound c.loop-chance.invariant.running (rw c.in-AddGate.is at (sym c.in_ok-chance.was ∙ c.next.ensures)))

pub offset_bounds-places-g : goal.offset_bounds-places-g
offset_bounds-places-g c = omega (arith, running_bounded c.loop-chance.invariant.running)

pub bounds-places-g : goal.bounds-places-g
bounds-places-g c = omega (arith, running_sound c.loop-chance.invariant.running (rw c.in-AddGate.is at (sym c.in_ok-chance.was ∙ c.next.ensures)))

pub past_gate-s-requires : goal.past_gate-s-requires
past_gate-s-requires c = running_bounded c.loop-chance.invariant.running

pub loop-chance-smaller-in-AddGate : goal.loop-chance-smaller-in-AddGate
loop-chance-smaller-in-AddGate c = rw c.past_gate-s.ensures (omega (arith, running_sound c.loop-chance.invariant.running (rw c.in-AddGate.is at (sym c.in_ok-chance.was ∙ c.next.ensures))))

pub loop-chance-preserved-in-AddGate : goal.loop-chance-preserved-in-AddGate
loop-chance-preserved-in-AddGate c = rw c.past_gate-s.ensures (standing_gate c.loop-chance.invariant _ _ _ _ (rw c.in-AddGate.is at (sym c.in_ok-chance.was ∙ c.next.ensures)))

pub offset_bounds-t-i : goal.offset_bounds-t-i
offset_bounds-t-i c = omega (arith, running_bounded c.loop-chance.invariant.running)

pub bounds-t-i : goal.bounds-t-i
bounds-t-i c = omega (arith, running_sound c.loop-chance.invariant.running (rw c.in-AddInput.is at (sym c.in_ok-chance.was ∙ c.next.ensures)), running_bounded c.loop-chance.invariant.running)

pub past_input-s-requires : goal.past_input-s-requires
past_input-s-requires c = (running_bounded c.loop-chance.invariant.running, (running_sound c.loop-chance.invariant.running (rw c.in-AddInput.is at (sym c.in_ok-chance.was ∙ c.next.ensures))).some)

pub starved-requires : goal.starved-requires
starved-requires c = rw c.past_input-s.ensures (standing_counted c.loop-chance.invariant (rw c.in-AddInput.is at (sym c.in_ok-chance.was ∙ c.next.ensures)))

pub overflow_sub-gate : goal.overflow_sub-gate
overflow_sub-gate c = (standing_counted c.loop-chance.invariant (rw c.in-AddInput.is at (sym c.in_ok-chance.was ∙ c.next.ensures))).some

pub offset_bounds-places-g-then-starved : goal.offset_bounds-places-g-then-starved
offset_bounds-places-g-then-starved c = omega (arith, standing_counted c.loop-chance.invariant (rw c.in-AddInput.is at (sym c.in_ok-chance.was ∙ c.next.ensures)))

pub bounds-places-g-then-starved : goal.bounds-places-g-then-starved
bounds-places-g-then-starved c = omega (arith, standing_counted c.loop-chance.invariant (rw c.in-AddInput.is at (sym c.in_ok-chance.was ∙ c.next.ensures)))

pub returns-then-starved : goal.returns-then-starved
returns-then-starved c =
    let both = with_verdict _ (refused_is (standing_starved c.loop-chance.invariant (rw c.in-AddInput.is at (sym c.in_ok-chance.was ∙ c.next.ensures)) (sym (rw c.past_input-s.ensures at c.starved.ensures) ∙ c.if-starved.true))) in
    record { whole = both.0; numbered = both.1 }

pub loop-chance-smaller : goal.loop-chance-smaller
loop-chance-smaller c = rw c.past_input-s.ensures (omega (arith, running_sound c.loop-chance.invariant.running (rw c.in-AddInput.is at (sym c.in_ok-chance.was ∙ c.next.ensures))))

pub loop-chance-preserved : goal.loop-chance-preserved
loop-chance-preserved c = rw c.past_input-s.ensures (standing_input c.loop-chance.invariant (rw c.in-AddInput.is at (sym c.in_ok-chance.was ∙ c.next.ensures)) (sym (rw c.past_input-s.ensures at c.starved.ensures) ∙ c.if-starved.false))

pub unused_in-requires : goal.unused_in-requires
unused_in-requires c = standing_ready c.loop-chance.invariant (rw c.in-Close.is at (sym c.in_ok-chance.was ∙ c.next.ensures))

pub returns-in-Some : goal.returns-in-Some
returns-in-Some c =
    let both = with_verdict _ (refused_is (standing_unused c.loop-chance.invariant (rw c.in-Close.is at (sym c.in_ok-chance.was ∙ c.next.ensures)) c.unused_in.ensures c.in-Some.is)) in
    record { whole = both.0; numbered = both.1 }

pub returns-in-None : goal.returns-in-None
returns-in-None c =
    let both = with_verdict _ (rw c.done.ensures (standing_done c.loop-chance.invariant (rw c.in-Close.is at (sym c.in_ok-chance.was ∙ c.next.ensures)) c.unused_in.ensures c.in-None.is)) in
    record { whole = both.0; numbered = both.1 }

pub returns-in_err-chance : goal.returns-in_err-chance
returns-in_err-chance c =
    let both = with_verdict _ (passed_on c.from_residual.ensures.1 ∙ refused_is (running_refused c.loop-chance.invariant.running _ (sym c.in_err-chance.was ∙ c.next.ensures))) in
    record { whole = both.0; numbered = both.1 }
