-- `exporting::pieces::lay_next` meets its contract. Assumes nothing.
use Rattle.exporting.proofs.Laying.{lay_then}
use native.Mathlib.Omega.{arith}
use Rattle.exporting.proofs.pieces.lay_next.Goals as goal

pub returns : goal.returns
returns c = let (p, near) = c.lay_input.ensures in (lay_then c.lay-a.ensures p, omega (arith, near, c.lay-a.ensures.to))
