-- `rules::judge::admit_gate_input` meets its contract.
-- Assumes nothing.
use Prim.Native.Nat.{◌+◌}
use native.Mathlib.Omega.{arith}
use borrow.Author.Tests.{le-leb, lt-leb, eq-eqb, ne_eqb}
use Rattle.rules.proofs.judge.admit_gate_input.Goals as goal

pub returns-then-s-eq0 : goal.returns-then-s-eq0
returns-then-s-eq0 c = simp (eq-eqb _ _ c.if-s-eq0.true)

pub returns-then-s-g : goal.returns-then-s-g
returns-then-s-g c = simp (ne_eqb _ _ c.if-s-eq0.false, le-leb c.args.s.gates (c.args.g + 1) (omega (arith, c.if-s-g.true)))

pub returns : goal.returns
returns c = simp (ne_eqb _ _ c.if-s-eq0.false, lt-leb c.args.s.gates (c.args.g + 1) (omega (arith, c.if-s-g.false)))
