-- `records::thresholds::starved` meets its contract.
-- Assumes nothing.
use mathlib.Core.Path.{sym}
use Rattle.records.proofs.Starving.{not_yet, plain_last, last_there, found_last}
use Rattle.records.proofs.thresholds.starved.Goals as goal

pub returns-then-s-gt0 : goal.returns-then-s-gt0
returns-then-s-gt0 c = sym (not_yet _ _ _ _ _ c.if-s-gt0.true)

pub returns-then-kind-ne4 : goal.returns-then-kind-ne4
returns-then-kind-ne4 c = sym (plain_last _ _ _ _ _ c.if-kind-ne4.true)

pub overflow_sub-first : goal.overflow_sub-first
overflow_sub-first c = last_there c.requires c.if-s-gt0.false

pub returns : goal.returns
returns c = found_last c.requires c.if-s-gt0.false _ _ _ c.distinct-n.ensures.count c.wrong_k.ensures
