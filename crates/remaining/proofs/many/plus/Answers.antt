-- `remaining::many::plus` meets its contract. Assumes nothing.
use native.Mathlib.Omega.{arith}
use Rattle.remaining.proofs.Caps.{sum_over, checked}
use Rattle.remaining.proofs.many.plus.Goals as goal

pub returns-in-Some-Some : goal.returns-in-Some-Some
returns-in-Some-Some c = rw (c.in-Some-Some.is-0, c.in-Some-Some.is-1) (checked _ _ c.checked_add.ensures)

pub returns-in_default : goal.returns-in_default
returns-in_default c = rw (c.in_default.is-0, c.in_default.is-1) (sum_over _ _ (omega arith))

pub returns-in_default-2 : goal.returns-in_default-2
returns-in_default-2 c = rw c.in_default.is-0 (sum_over _ _ (omega arith))
