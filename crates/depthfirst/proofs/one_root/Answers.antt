-- `depthfirst::one_root` meets its contract. Assumes nothing.
use native.Mathlib.Omega.{arith}
use Rattle.depthfirst.proofs.Rooting.{root_none, root_two, root_one}
use Rattle.depthfirst.proofs.one_root.Goals as goal

pub returns-in_err-root : goal.returns-in_err-root
returns-in_err-root c = rw c.from_residual.ensures (root_none c.mark_inputs.ensures (rw c.in_err-root.was at c.first_bare.ensures) (omega arith))

pub returns-in-Some : goal.returns-in-Some
returns-in-Some c = root_two c.mark_inputs.ensures (rw c.in_ok-root.was at c.first_bare.ensures).1 (rw c.in_ok-root.was at c.first_bare.ensures).0 c.in-Some.ensures.1 c.in-Some.ensures.0

pub returns-in-None : goal.returns-in-None
returns-in-None c = root_one c.mark_inputs.ensures (rw c.in_ok-root.was at c.first_bare.ensures).1 (rw c.in_ok-root.was at c.first_bare.ensures).0 c.in-None.ensures (omega arith)
