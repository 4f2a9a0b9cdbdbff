-- `rules::judge::admit_event` meets its contract.
-- Assumes nothing.
use mathlib.Core.Path.{sym, ◌∙◌}
use borrow.Author.Tests.{lt-ltb, le-ltb, le-leb, lt-leb}
use Rattle.rules.proofs.judge.admit_event.Goals as goal

pub returns-then-s-gt0 : goal.returns-then-s-gt0
returns-then-s-gt0 c = simp (lt-ltb _ _ c.if-s-gt0.true)

pub returns-then-mixed : goal.returns-then-mixed
returns-then-mixed c = simp (le-ltb _ _ c.if-s-gt0.false, sym c.mixed.ensures ∙ c.if-mixed.true)

pub returns-then-s-ge-EVENTS : goal.returns-then-s-ge-EVENTS
returns-then-s-ge-EVENTS c = simp (le-ltb _ _ c.if-s-gt0.false, sym c.mixed.ensures ∙ c.if-mixed.false, le-leb _ _ c.if-s-ge-EVENTS.true)

pub returns-then-c-gt-BILLION : goal.returns-then-c-gt-BILLION
returns-then-c-gt-BILLION c = simp (le-ltb _ _ c.if-s-gt0.false, sym c.mixed.ensures ∙ c.if-mixed.false, lt-leb _ _ c.if-s-ge-EVENTS.false, lt-ltb _ _ c.if-c-gt-BILLION.true)

pub returns : goal.returns
returns c = simp (le-ltb _ _ c.if-s-gt0.false, sym c.mixed.ensures ∙ c.if-mixed.false, lt-leb _ _ c.if-s-ge-EVENTS.false, le-ltb _ _ c.if-c-gt-BILLION.false)
