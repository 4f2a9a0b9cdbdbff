-- `report::enough` meets its contract. Assumes nothing.
use native.Mathlib.Omega.{arith}
use Rattle.report.proofs.enough.Goals as goal

pub returns-then-chances-n : goal.returns-then-chances-n
returns-then-chances-n c = λ p. let h = p.chances in omega (arith, c.if-chances-n.true)

pub returns-then-few-capacity : goal.returns-then-few-capacity
returns-then-few-capacity c = λ p. let h = p.few in omega (arith, c.if-few-capacity.true)

pub returns-then-picks-capacity : goal.returns-then-picks-capacity
returns-then-picks-capacity c = λ p. let h = p.picks in omega (arith, c.if-picks-capacity.true)

pub returns : goal.returns
returns c = record { chances = omega (arith, c.if-chances-n.false); few = omega (arith, c.if-few-capacity.false); picks = omega (arith, c.if-picks-capacity.false) }
