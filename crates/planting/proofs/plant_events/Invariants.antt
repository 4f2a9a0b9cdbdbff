-- `planting::plant_events` meets its contract. Assumes nothing.
use lib.ListN.{take}
use Rattle.planting.specs.Orders.{chances_among}
use Rattle.planting.specs.Planting.{EventsIn}
use Rattle.planting.proofs.plant_events.Given as goal

abbrev pub invariant-loop-i : goal.invariant-loop-i
invariant-loop-i l = EventsIn (chances_among l.starts l.inputs l.chances (take l.i l.order)) l.e l.events
