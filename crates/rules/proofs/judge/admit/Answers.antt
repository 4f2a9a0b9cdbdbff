-- `rules::judge::admit` meets its contract.
-- Assumes nothing.
use mathlib.Core.Path.{refl}
use native.Mathlib.Omega.{arith}
use Rattle.rules.proofs.judge.admit.Goals as goal

pub overflow_add-after : goal.overflow_add-after
overflow_add-after c = omega (arith, c.width.ensures)

pub returns-in-Missing : goal.returns-in-Missing
returns-in-Missing c = rw c.in-Missing.is refl

pub returns-in-Unknown : goal.returns-in-Unknown
returns-in-Unknown c = rw c.in-Unknown.is refl

pub returns-in-Short : goal.returns-in-Short
returns-in-Short c = rw c.in-Short.is refl

pub returns-in-Event : goal.returns-in-Event
returns-in-Event c = rw c.in-Event.is (rw (c.width.ensures, c.in-Event.is) at c.admit_event.ensures)

pub returns-in-SitedEvent : goal.returns-in-SitedEvent
returns-in-SitedEvent c = rw c.in-SitedEvent.is (rw (c.width.ensures, c.in-SitedEvent.is) at c.admit_event-in-SitedEvent.ensures)

pub returns-in-Gate : goal.returns-in-Gate
returns-in-Gate c = rw c.in-Gate.is (rw (c.width.ensures, c.in-Gate.is) at c.admit_gate.ensures)

pub returns-in-EventInput : goal.returns-in-EventInput
returns-in-EventInput c = rw c.in-EventInput.is (rw (c.width.ensures, c.in-EventInput.is) at c.admit_event_input.ensures)

pub returns-in-GateInput : goal.returns-in-GateInput
returns-in-GateInput c = rw c.in-GateInput.is (rw (c.width.ensures, c.in-GateInput.is) at c.admit_gate_input.ensures)

pub returns-in-WideInput : goal.returns-in-WideInput
returns-in-WideInput c = rw c.in-WideInput.is (rw (c.width.ensures, c.in-WideInput.is) at c.admit_wide_input.ensures)

pub returns-in-End : goal.returns-in-End
returns-in-End c = rw c.in-End.is (rw (c.width.ensures, c.in-End.is) at c.admit_end.ensures)
