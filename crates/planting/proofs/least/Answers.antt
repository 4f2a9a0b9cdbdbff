-- `planting::least` meets its contract. Assumes nothing.
use native.Mathlib.Omega.{arith}
use Rattle.planting.proofs.Gates.{kept_least, kept_plain}
use Rattle.planting.proofs.least.Goals as goal

pub overflow_cast-result : goal.overflow_cast-result
overflow_cast-result c = omega (arith, c.requires.k_le_inputs c.if-kind-eq4.true)

pub returns-then-kind-eq4 : goal.returns-then-kind-eq4
returns-then-kind-eq4 c = kept_least c.if-kind-eq4.true

pub returns : goal.returns
returns c = kept_plain _ c.requires.le_kind c.if-kind-eq4.false
