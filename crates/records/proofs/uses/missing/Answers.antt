-- `records::uses::missing` meets its contract.
-- Assumes nothing.
use mathlib.Core.Path.{sym, ◌∙◌}
use native.Mathlib.Nat.{sub-zero}
use Rattle.records.proofs.Seek.{lowest_past, lowest_here, lowest_none}
use Rattle.records.proofs.uses.missing.Goals as goal

pub loop-i-init : goal.loop-i-init
loop-i-init c = rw sub-zero

pub loop-i-preserved : goal.loop-i-preserved
loop-i-preserved c = c.loop-i.invariant ∙ lowest_past _ _ _ _ c.loop-i-test.true (sym c.used.ensures ∙ c.if-not-used.false)

pub returns-then-not-used : goal.returns-then-not-used
returns-then-not-used c =
    (sym (c.loop-i.invariant ∙ lowest_here _ _ _ _ c.loop-i-test.true (sym c.used.ensures ∙ c.if-not-used.true)), c.loop-i-test.true)

pub returns : goal.returns
returns c = (sym (c.loop-i.invariant ∙ lowest_none _ _ _ _ c.loop-i-test.false), tt)
