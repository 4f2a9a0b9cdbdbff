-- `sizes::add` meets its contract. Assumes nothing.
use native.Mathlib.Omega.{arith}
use Rattle.sizes.proofs.Pass.{adds_over, adds_sum}
use Rattle.sizes.proofs.add.Goals as goal

pub returns-in_err-work : goal.returns-in_err-work
returns-in_err-work c = let h = c.in_err-work.ensures in rw c.from_residual.ensures (adds_over (omega (arith, h)))

pub returns : goal.returns
returns c = let h = c.in_ok-work.ensures in rw h.1 (adds_sum (omega (arith, h)))
