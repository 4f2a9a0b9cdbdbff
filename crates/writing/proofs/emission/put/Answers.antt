-- `writing::emission::put` meets its contract.
-- Assumes nothing.
use mathlib.Core.Path.{refl}
use native.Mathlib.Omega.{arith}
use lib.ListN.{length-set}
use Rattle.writing.proofs.Stores.{store_1, store_2}
use Rattle.writing.proofs.emission.put.Goals as goal

pub put_event-requires : goal.put_event-requires
put_event-requires c = rw c.in-Event.is at c.requires

pub put_sited_event-requires : goal.put_sited_event-requires
put_sited_event-requires c = rw c.in-SitedEvent.is at c.requires

pub put_wide-requires : goal.put_wide-requires
put_wide-requires c = rw c.in-GateInput.is at c.requires

pub put_wide-requires-in-WideInput : goal.put_wide-requires-in-WideInput
put_wide-requires-in-WideInput c = rw c.in-WideInput.is at c.requires

pub put_gate-requires : goal.put_gate-requires
put_gate-requires c = rw c.in-Gate.is at c.requires

pub bounds-b-0 : goal.bounds-b-0
bounds-b-0 c = omega (arith, rw c.in-EventInput.is at c.requires)

pub bounds-b-1 : goal.bounds-b-1
bounds-b-1 c = simp length-set (omega (arith, rw c.in-EventInput.is at c.requires))

pub bounds-b-0-in-End : goal.bounds-b-0-in-End
bounds-b-0-in-End c = omega (arith, rw c.in-End.is at c.requires)

pub bounds-b-0-in-Unknown : goal.bounds-b-0-in-Unknown
bounds-b-0-in-Unknown c = omega (arith, rw c.in-Unknown.is at c.requires)

pub returns-in-Event : goal.returns-in-Event
returns-in-Event c = rw c.in-Event.is c.put_event.ensures

pub returns-in-SitedEvent : goal.returns-in-SitedEvent
returns-in-SitedEvent c = rw c.in-SitedEvent.is c.put_sited_event.ensures

pub returns-in-Gate : goal.returns-in-Gate
returns-in-Gate c = rw c.in-Gate.is c.put_gate.ensures

pub returns-in-EventInput : goal.returns-in-EventInput
returns-in-EventInput c = rw c.in-EventInput.is (store_2 c.args.b.now _ _ (rw c.in-EventInput.is at c.requires))

pub returns-in-GateInput : goal.returns-in-GateInput
returns-in-GateInput c = rw c.in-GateInput.is c.put_wide.ensures

pub returns-in-WideInput : goal.returns-in-WideInput
returns-in-WideInput c = rw c.in-WideInput.is c.put_wide-in-WideInput.ensures

pub returns-in-End : goal.returns-in-End
returns-in-End c = rw c.in-End.is (store_1 c.args.b.now _ (rw c.in-End.is at c.requires))

pub returns-in-Unknown : goal.returns-in-Unknown
returns-in-Unknown c = rw c.in-Unknown.is (store_1 c.args.b.now _ (rw c.in-Unknown.is at c.requires))

pub returns-in-Missing : goal.returns-in-Missing
returns-in-Missing c = rw c.in-Missing.is refl

pub returns-in-Short : goal.returns-in-Short
returns-in-Short c = rw c.in-Short.is refl
