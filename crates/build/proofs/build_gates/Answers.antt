-- `build::build_gates`
use Prim.Native.Nat.{◌-◌}
use native.Mathlib.Omega.{arith}
use Rattle.build.proofs.Gates.{gate_fits}
use Rattle.build.proofs.Sofar.{sofar_within, going_start, going_next, going_short, going_end}
use Rattle.build.proofs.build_gates.Goals as goal

pub returns-in_default : goal.returns-in_default
returns-in_default c = going_short c.loop-g.invariant c.loop-g-test.true c.in_default.ensures

pub overflow_add-at : goal.overflow_add-at
overflow_add-at c = omega (arith, gate_fits c.requires.plan c.loop-g-test.true c.loop-g.invariant.start, c.well_formed.1.1.1.1.1.1.1.1.1.0)

pub loop-g-preserved : goal.loop-g-preserved
loop-g-preserved c = going_next c.loop-g.invariant c.loop-g-test.true c.in-Ok.ensures

pub returns : goal.returns
returns c = going_end c.loop-g.invariant c.loop-g-test.false
