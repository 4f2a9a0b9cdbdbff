-- `decision::holds` meets its contract. Assumes nothing.
use native.Mathlib.Omega.{arith}
use Rattle.decision.proofs.Looking.{holds_lowest}
use Rattle.decision.proofs.holds.Goals as goal

pub returns : goal.returns
returns c = holds_lowest c.lowest.ensures (omega (arith, c.told-set, c.requires))
