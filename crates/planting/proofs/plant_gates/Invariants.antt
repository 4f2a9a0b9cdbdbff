-- `planting::plant_gates` meets its contract. Assumes nothing.
use lib.ListN.{take}
use Rattle.planting.specs.Orders.{gates_among}
use Rattle.planting.specs.Planting.{GatesIn}
use Rattle.planting.proofs.plant_gates.Given as goal

abbrev pub invariant-loop-i : goal.invariant-loop-i
invariant-loop-i l = GatesIn (gates_among l.starts l.inputs l.numbers l.kinds l.leasts (take l.i l.order)) l.g l.used l.ks l.ls l.ns l.codes
