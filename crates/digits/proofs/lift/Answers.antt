-- `digits::lift` meets its contract. Assumes nothing.
use mathlib.Core.Path.{refl, ◌∙◌}
use native.Mathlib.Omega.{arith}
use Rattle.digits.proofs.Steps.{lift_start, lift_more, number_up, lift_end}
use Rattle.digits.proofs.lift.Goals as goal

pub loop-k-preserved : goal.loop-k-preserved
loop-k-preserved c = (lift_more _ _ c.loop-k.invariant.0 c.scale.ensures.0, number_up c.scale.ensures.1 (omega arith), c.scale.auto.ds ∙ c.loop-k.invariant.2)
