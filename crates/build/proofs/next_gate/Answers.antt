-- `build::next_gate`
use mathlib.Core.List.{map}
use native.Mathlib.Omega.{arith}
use Rattle.tables.specs.Table.{den}
use Rattle.build.proofs.Gates.{gate_fits, gate_own, gate_least, gate_is}
use Rattle.build.proofs.next_gate.Goals as goal

pub overflow_add-end : goal.overflow_add-end
overflow_add-end c = omega (arith, gate_fits c.requires.plan c.requires.g_in_bounds c.requires.at_value, c.well_formed.1.1.1.1.1.1.1.1.0)

pub offset_bounds-inputs-at : goal.offset_bounds-inputs-at
offset_bounds-inputs-at c = omega (arith, gate_fits c.requires.plan c.requires.g_in_bounds c.requires.at_value, c.well_formed.1.1.1.1.1.1.1.1.0)

pub slice_bounds-gate_node-end : goal.slice_bounds-gate_node-end
slice_bounds-gate_node-end c = omega (arith, gate_fits c.requires.plan c.requires.g_in_bounds c.requires.at_value)

pub gate_node-requires : goal.gate_node-requires
gate_node-requires c =
    record {
      held = c.requires.held;
      within = c.requires.within;
      own = gate_own c.requires.plan c.requires.g_in_bounds c.requires.at_value _ c.requires.sizes_in_bounds;
      k_le_inputs = gate_least c.requires.plan c.requires.g_in_bounds c.requires.at_value;
    }
