-- `writing::sites::first_site` meets its contract.
-- Assumes nothing.
use mathlib.Core.Path.{sym, ◌∙◌}
use native.Mathlib.Nat.{sub-zero}
use Rattle.writing.proofs.Seeking.{sited_past, sited_here, sited_none}
use Rattle.writing.proofs.sites.first_site.Goals as goal

pub loop-i-init : goal.loop-i-init
loop-i-init c = rw sub-zero

pub loop-i-preserved : goal.loop-i-preserved
loop-i-preserved c = c.loop-i.invariant ∙ sited_past _ _ _ c.loop-i-test.true c.if-t-i-ne0.false

pub returns-then-t-i-ne0 : goal.returns-then-t-i-ne0
returns-then-t-i-ne0 c = (sym (c.loop-i.invariant ∙ sited_here _ _ _ c.loop-i-test.true c.if-t-i-ne0.true), c.loop-i-test.true)

pub returns : goal.returns
returns c = (sym (c.loop-i.invariant ∙ sited_none _ _ _ c.loop-i-test.false), tt)
