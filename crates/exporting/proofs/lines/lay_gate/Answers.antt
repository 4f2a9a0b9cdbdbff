-- `exporting::lines::lay_gate` meets its contract. Assumes nothing.
use Rattle.exporting.proofs.Laying.{lay_then, lay_same}
use Rattle.exporting.proofs.Gates.{gate_line_lem}
use native.Mathlib.Omega.{arith}
use Rattle.exporting.proofs.lines.lay_gate.Goals as goal

pub returns : goal.returns
returns c = let (p, a) = c.lay_number-a.ensures in let (q, b) = c.lay_right-c.ensures in (lay_same (gate_line_lem c.args.g c.args.kind c.args.k c.args.inputs.now c.args.first c.args.n) (lay_then (lay_then (lay_then p c.lay-b.ensures) q) c.lay.ensures), omega (arith, a, b, c.lay-b.ensures.to, c.lay.ensures.to))
