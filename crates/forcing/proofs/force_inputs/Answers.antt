-- `forcing::force_inputs`
use native.Mathlib.Omega.{arith}
use Rattle.forcing.proofs.Codes.{changing_start, changing_next, changing_end}
use Rattle.forcing.proofs.force_inputs.Goals as goal

pub loop-input-init : goal.loop-input-init
loop-input-init c = changing_start

pub loop-input-preserved : goal.loop-input-preserved
loop-input-preserved c = changing_next c.loop-input.invariant (omega arith) c.forced_code.ensures

pub returns : goal.returns
returns c = changing_end c.loop-input.invariant (omega arith)
