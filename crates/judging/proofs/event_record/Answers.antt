-- `judging::event_record` meets its contract.
-- Assumes nothing.
use Rattle.judging.proofs.Coding.{own_event, own_sited}
use Rattle.judging.proofs.event_record.Goals as goal

pub returns-then-sited : goal.returns-then-sited
returns-then-sited c = (simp c.if-sited.true, own_sited _ _)

pub returns : goal.returns
returns c = (simp c.if-sited.false, own_event _)
