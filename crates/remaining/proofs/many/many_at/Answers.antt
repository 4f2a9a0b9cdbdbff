-- `remaining::many::many_at` meets its contract. Assumes nothing.
use Prim.Native.Nat.{◌*◌}
use native.Mathlib.Omega.{arith}
use Rattle.remaining.proofs.Caps.{read_exact, read_over}
use Rattle.remaining.proofs.many.many_at.Goals as goal

pub returns-then-area-i-eq0 : goal.returns-then-area-i-eq0
returns-then-area-i-eq0 c = read_exact _ _ c.if-area-i-eq0.true (omega (arith, (c.type_inv.area (2 * c.args.i)).fits))

pub returns-else-area-i-eq0 : goal.returns-else-area-i-eq0
returns-else-area-i-eq0 c = read_over _ _ c.if-area-i-eq0.false
