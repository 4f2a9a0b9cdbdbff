-- `survey::input_record` meets its contract.
-- Assumes nothing.
use borrow.Author.Tests.{lt-ltb, le-ltb}
use Rattle.judging.proofs.Coding.{own_event_input, own_wide_input, own_gate_input}
use Rattle.judging.proofs.input_record.Goals as goal

pub returns-then-code-lt-WIDE_FROM : goal.returns-then-code-lt-WIDE_FROM
returns-then-code-lt-WIDE_FROM c = (simp (lt-ltb _ _ c.if-code-lt-WIDE_FROM.true), own_event_input _)

pub returns-then-code-lt-GATES_FROM : goal.returns-then-code-lt-GATES_FROM
returns-then-code-lt-GATES_FROM c = (simp (le-ltb _ _ c.if-code-lt-WIDE_FROM.false, lt-ltb _ _ c.if-code-lt-GATES_FROM.true), own_wide_input _)

pub returns : goal.returns
returns c = (simp (le-ltb _ _ c.if-code-lt-WIDE_FROM.false, le-ltb _ _ c.if-code-lt-GATES_FROM.false), own_gate_input _)
