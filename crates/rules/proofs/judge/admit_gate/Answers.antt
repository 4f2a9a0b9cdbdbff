-- `rules::judge::admit_gate` meets its contract.
-- Assumes nothing.
use Prim.Native.Nat.{◌+◌}
use native.Mathlib.Omega.{arith}
use borrow.Author.Tests.{lt-ltb, le-ltb, le-leb, lt-leb, eq-eqb, ne_eqb}
use Rattle.rules.proofs.judge.admit_gate.Goals as goal

pub returns-then-s-gt0 : goal.returns-then-s-gt0
returns-then-s-gt0 c = simp (lt-ltb _ _ c.if-s-gt0.true)

pub returns-then-s-ge-GATES : goal.returns-then-s-ge-GATES
returns-then-s-ge-GATES c = simp (le-ltb _ _ c.if-s-gt0.false, le-leb _ _ c.if-s-ge-GATES.true)

pub returns-then-n-eq0 : goal.returns-then-n-eq0
returns-then-n-eq0 c = simp (le-ltb _ _ c.if-s-gt0.false, lt-leb _ _ c.if-s-ge-GATES.false, eq-eqb _ _ c.if-n-eq0.true)

pub returns-then-n-gt-INPUTS : goal.returns-then-n-gt-INPUTS
returns-then-n-gt-INPUTS c = simp (le-ltb _ _ c.if-s-gt0.false, lt-leb _ _ c.if-s-ge-GATES.false, ne_eqb _ _ c.if-n-eq0.false, lt-ltb _ _ c.if-n-gt-INPUTS.true)

pub returns-then-s-n-gt-IN_ALL : goal.returns-then-s-n-gt-IN_ALL
returns-then-s-n-gt-IN_ALL c = simp (le-ltb _ _ c.if-s-gt0.false, lt-leb _ _ c.if-s-ge-GATES.false, ne_eqb _ _ c.if-n-eq0.false, le-ltb _ _ c.if-n-gt-INPUTS.false, lt-ltb 4096 (c.args.s.inputs + c.args.n) (omega (arith, c.if-s-n-gt-IN_ALL.true)))

pub returns : goal.returns
returns c = simp (le-ltb _ _ c.if-s-gt0.false, lt-leb _ _ c.if-s-ge-GATES.false, ne_eqb _ _ c.if-n-eq0.false, le-ltb _ _ c.if-n-gt-INPUTS.false, le-ltb 4096 (c.args.s.inputs + c.args.n) (omega (arith, c.if-s-n-gt-IN_ALL.false)))
