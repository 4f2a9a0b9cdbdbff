-- `rules::judge::admit_wide_input` meets its contract.
-- Assumes nothing.
use borrow.Author.Tests.{lt-ltb, le-ltb, le-leb, lt-leb, eq-eqb, ne_eqb}
use Rattle.rules.proofs.judge.admit_wide_input.Goals as goal

pub returns-then-s-eq0 : goal.returns-then-s-eq0
returns-then-s-eq0 c = simp (eq-eqb _ _ c.if-s-eq0.true)

pub returns-then-e-lt-WIDE_FROM : goal.returns-then-e-lt-WIDE_FROM
returns-then-e-lt-WIDE_FROM c = simp (ne_eqb _ _ c.if-s-eq0.false, lt-ltb _ _ c.if-e-lt-WIDE_FROM.true)

pub returns-then-s-e : goal.returns-then-s-e
returns-then-s-e c = simp (ne_eqb _ _ c.if-s-eq0.false, le-ltb _ _ c.if-e-lt-WIDE_FROM.false, le-leb _ _ c.if-s-e.true)

pub returns : goal.returns
returns c = simp (ne_eqb _ _ c.if-s-eq0.false, le-ltb _ _ c.if-e-lt-WIDE_FROM.false, lt-leb _ _ c.if-s-e.false)
