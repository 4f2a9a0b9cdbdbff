-- `rules::judge::admit_event_input` meets its contract.
-- Assumes nothing.
use borrow.Author.Tests.{le-leb, lt-leb, eq-eqb, ne_eqb}
use Rattle.rules.proofs.judge.admit_event_input.Goals as goal

pub returns-then-s-eq0 : goal.returns-then-s-eq0
returns-then-s-eq0 c = simp (eq-eqb _ _ c.if-s-eq0.true)

pub returns-then-s-e : goal.returns-then-s-e
returns-then-s-e c = simp (ne_eqb _ _ c.if-s-eq0.false, le-leb _ _ c.if-s-e.true)

pub returns : goal.returns
returns c = simp (ne_eqb _ _ c.if-s-eq0.false, lt-leb _ _ c.if-s-e.false)
