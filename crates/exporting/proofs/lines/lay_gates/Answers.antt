-- `exporting::lines::lay_gates` meets its contract. Assumes nothing.
use native.Mathlib.Omega.{arith}
use Rattle.exporting.proofs.Gates.{gates_low, gates_inputs, gates_more, gates_end}
use Rattle.exporting.proofs.lines.lay_gates.Goals as goal

pub lay_gate-at-requires : goal.lay_gate-at-requires
lay_gate-at-requires c = (gates_inputs c.loop-g.invariant c.loop-g-test.true, gates_low c.loop-g.invariant)

pub overflow_add-first : goal.overflow_add-first
overflow_add-first c = omega (arith, (gates_inputs c.loop-g.invariant c.loop-g-test.true).inside)

pub loop-g-preserved : goal.loop-g-preserved
loop-g-preserved c = gates_more c.loop-g.invariant c.loop-g-test.true c.lay_gate-at.ensures

pub returns : goal.returns
returns c = gates_end c.loop-g.invariant c.loop-g-test.false
