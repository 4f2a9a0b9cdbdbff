-- `exporting::lines::lay_right` meets its contract. Assumes nothing.
use Rattle.exporting.proofs.Laying.{lay_then, lay_same}
use Rattle.exporting.proofs.Rows.{right_one, right_and, right_or, right_least}
use native.Mathlib.Omega.{arith}
use Rattle.exporting.proofs.lines.lay_right.Goals as goal

pub returns-then-n-eq1 : goal.returns-then-n-eq1
returns-then-n-eq1 c = let (p, near) = c.lay_input.ensures in (lay_same (right_one c.args.kind c.args.k _ c.requires.0 c.if-n-eq1.true) p, omega (arith, near))

pub returns-then-kind-eq2 : goal.returns-then-kind-eq2
returns-then-kind-eq2 c = let (p, near) = c.lay_row.ensures in (lay_same (right_and c.args.kind c.args.k _ c.requires.0 c.if-n-eq1.false c.if-kind-eq2.true) p, omega (arith, near))

pub returns-then-kind-eq3 : goal.returns-then-kind-eq3
returns-then-kind-eq3 c = let (p, near) = c.lay_row-then-kind-eq3.ensures in (lay_same (right_or c.args.kind c.args.k _ c.requires.0 c.if-n-eq1.false c.if-kind-eq2.false c.if-kind-eq3.true) p, omega (arith, near))

pub returns : goal.returns
returns c = let (q, a) = c.lay_number-a.ensures in let (p, near) = c.lay_row-2.ensures in (lay_same (right_least c.args.kind c.args.k _ c.requires.0 c.if-n-eq1.false c.if-kind-eq2.false c.if-kind-eq3.false) (lay_then (lay_then q c.lay-b.ensures) p), omega (arith, near, a, c.lay-b.ensures.to))
