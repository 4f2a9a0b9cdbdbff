-- `exporting::lines::lay_chance` meets its contract. Assumes nothing.
use Rattle.exporting.proofs.Laying.{lay_then, lay_same}
use Rattle.exporting.proofs.Chances.{chance_line_lem}
use native.Mathlib.Omega.{arith}
use Rattle.exporting.proofs.lines.lay_chance.Goals as goal

pub returns : goal.returns
returns c = let (p, a) = c.lay_number-a.ensures in let (q, b) = c.lay_number-b.ensures in (lay_same (chance_line_lem c.args.e c.args.chance) (lay_then (lay_then p q) c.lay.ensures), omega (arith, a, b, c.lay.ensures.to))
