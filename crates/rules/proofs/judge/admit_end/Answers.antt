-- `rules::judge::admit_end` meets its contract.
-- Assumes nothing.
use borrow.Author.Tests.{lt-ltb, le-ltb, eq-eqb, ne_eqb}
use Rattle.rules.proofs.judge.admit_end.Goals as goal

pub returns-then-s-gt0 : goal.returns-then-s-gt0
returns-then-s-gt0 c = simp (lt-ltb _ _ c.if-s-gt0.true)

pub returns-then-after-len : goal.returns-then-after-len
returns-then-after-len c = simp (le-ltb _ _ c.if-s-gt0.false, lt-ltb _ _ c.if-after-len.true)

pub returns-then-s-eq0 : goal.returns-then-s-eq0
returns-then-s-eq0 c = simp (le-ltb _ _ c.if-s-gt0.false, le-ltb _ _ c.if-after-len.false, eq-eqb _ _ c.if-s-eq0.true)

pub returns-then-s-eq0-2 : goal.returns-then-s-eq0-2
returns-then-s-eq0-2 c = simp (le-ltb _ _ c.if-s-gt0.false, le-ltb _ _ c.if-after-len.false, ne_eqb _ _ c.if-s-eq0.false, eq-eqb _ _ c.if-s-eq0-2.true)

pub returns : goal.returns
returns c = simp (le-ltb _ _ c.if-s-gt0.false, le-ltb _ _ c.if-after-len.false, ne_eqb _ _ c.if-s-eq0.false, ne_eqb _ _ c.if-s-eq0-2.false)
