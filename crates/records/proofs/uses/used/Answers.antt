-- `records::uses::used` meets its contract.
-- Assumes nothing.
use mathlib.Core.Path.{sym, ◌∙◌}
use native.Mathlib.Omega.{arith}
use Rattle.records.proofs.Seek.{sum_none, among_here, among_past, among_none}
use Rattle.records.proofs.uses.used.Goals as goal

pub loop-i-preserved : goal.loop-i-preserved
loop-i-preserved c = (c.loop-i.invariant.0, c.loop-i.invariant.1, c.loop-i.invariant.2 ∙ among_past c.args.inputs.now c.loop-i.i (omega arith) _ c.if-inputs-i.false)

pub returns-after-search : goal.returns-after-search
returns-after-search c = c.search.invariant.0 ∙ sym (c.search.invariant.2 ∙ among_none c.args.inputs.now c.search.first _ (omega (arith, sum_none c.args.sizes.now c.search.g c.search-test.false)))

pub returns-then-inputs-i : goal.returns-then-inputs-i
returns-then-inputs-i c = sym (c.loop-i.invariant.2 ∙ among_here c.args.inputs.now c.loop-i.i (omega arith) _ c.if-inputs-i.true)
