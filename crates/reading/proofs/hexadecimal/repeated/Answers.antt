-- `reading::hexadecimal::repeated` meets its contract.
-- Assumes nothing.
use Prim.Native.Nat.{◌-◌}
use native.Mathlib.Nat.{mul-le-mul}
use native.Mathlib.Omega.{arith}
use Rattle.reading.proofs.hexadecimal.repeated.Goals as goal

pub overflow_mul-n : goal.overflow_mul-n
overflow_mul-n c = let n = c.times-n.result.value in let size = c.args.c.bytes - c.args.c.group in record { fits = omega (arith, mul-le-mul {n₁ = n - 1} {m₁ = size} {n₂ = 99999} {m₂ = 4096} (omega arith) (omega arith)) }
