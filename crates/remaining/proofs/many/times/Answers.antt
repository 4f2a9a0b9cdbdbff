-- `remaining::many::times` meets its contract. Assumes nothing.
use mathlib.Core.Logic.{inl, inr}
use native.Mathlib.Omega.{arith}
use Rattle.remaining.specs.Counting.{above}
use Rattle.remaining.proofs.Caps.{product_none, product_over, product_above, checked}
use Rattle.remaining.proofs.many.times.Goals as goal

pub returns-in-Some-Some : goal.returns-in-Some-Some
returns-in-Some-Some c = rw (c.in-Some-Some.is-0, c.in-Some-Some.is-1) (checked _ _ c.checked_mul.ensures)

pub returns-then-n-eq0 : goal.returns-then-n-eq0
returns-then-n-eq0 c = rw (c.in-Some-None.is-0, c.in-Some-None.is-1) (product_none _ _ (inl c.if-n-eq0.true))

pub returns-else-n-eq0 : goal.returns-else-n-eq0
returns-else-n-eq0 c = rw (c.in-Some-None.is-0, c.in-Some-None.is-1) (product_above _ c.if-n-eq0.false)

pub returns-then-n-eq0-2 : goal.returns-then-n-eq0-2
returns-then-n-eq0-2 c = rw (c.in-None-Some.is-0, c.in-None-Some.is-1) (product_none _ _ (inr c.if-n-eq0-2.true))

pub returns-else-n-eq0-2 : goal.returns-else-n-eq0-2
returns-else-n-eq0-2 c = rw (c.in-None-Some.is-0, c.in-None-Some.is-1) (product_over _ c.if-n-eq0-2.false)

pub returns-in-None-None : goal.returns-in-None-None
returns-in-None-None c = rw (c.in-None-None.is-0, c.in-None-None.is-1) (product_over above (λ q. omega (arith, q)))
