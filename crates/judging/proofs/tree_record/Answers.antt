-- `judging::tree_record` meets its contract.
-- Assumes nothing.
use borrow.Author.Tests.{lt-ltb, le-ltb}
use Rattle.judging.proofs.Coding.{own_end, own_and}
use Rattle.judging.proofs.tree_record.Goals as goal

pub returns-then-s-lt-EVENTS : goal.returns-then-s-lt-EVENTS
returns-then-s-lt-EVENTS c = (simp (lt-ltb _ _ c.if-s-events.true, lt-ltb _ _ c.if-s-lt-EVENTS.true) c.event_record.ensures.0, c.event_record.ensures.1)

pub returns-then-s-events : goal.returns-then-s-events
returns-then-s-events c = (simp (lt-ltb _ _ c.if-s-events.true, le-ltb _ _ c.if-s-lt-EVENTS.false) c.event_record-then-s-events.ensures.0, c.event_record-then-s-events.ensures.1)

pub returns-then-s-gt0 : goal.returns-then-s-gt0
returns-then-s-gt0 c = (simp (le-ltb _ _ c.if-s-events.false, lt-ltb _ _ c.if-s-gt0.true) c.input_record.ensures.0, c.input_record.ensures.1)

pub returns-then-g-lt-GATES : goal.returns-then-g-lt-GATES
returns-then-g-lt-GATES c = (simp (le-ltb _ _ c.if-s-events.false, le-ltb _ _ c.if-s-gt0.false, lt-ltb _ _ c.if-g-gates.true, lt-ltb _ _ c.if-g-lt-GATES.true) c.gate_record.ensures.0, c.gate_record.ensures.1)

pub returns-then-g-gates : goal.returns-then-g-gates
returns-then-g-gates c = (simp (le-ltb _ _ c.if-s-events.false, le-ltb _ _ c.if-s-gt0.false, lt-ltb _ _ c.if-g-gates.true, le-ltb _ _ c.if-g-lt-GATES.false), own_and 0)

pub returns : goal.returns
returns c = (simp (le-ltb _ _ c.if-s-events.false, le-ltb _ _ c.if-s-gt0.false, le-ltb _ _ c.if-g-gates.false), own_end)
