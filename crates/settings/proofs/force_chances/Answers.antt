-- `settings::force_chances`
use native.Mathlib.Omega.{arith}
use Rattle.settings.proofs.Chances.{changing_end}
use Rattle.settings.proofs.force_chances.Goals as goal

pub returns : goal.returns
returns c = changing_end c.loop-e.invariant (omega (arith, c.loop-e.invariant.long))
