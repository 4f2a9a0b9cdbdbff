-- `lines::value` meets its contract. Assumes nothing.
use Rattle.lines.proofs.Numbers.{valued_start, valued_digit, valued_next, valued_end}
use Rattle.lines.proofs.value.Goals as goal

pub loop-b-init : goal.loop-b-init
loop-b-init c = valued_start c.requires

pub overflow_sub-b : goal.overflow_sub-b
overflow_sub-b c = valued_digit c.requires c.loop-b.invariant c.loop-b-test.true

pub loop-b-preserved : goal.loop-b-preserved
loop-b-preserved c = valued_next c.requires c.loop-b.invariant c.loop-b-test.true c.saturating_mul.ensures c.from.ensures c.saturating_add-n.ensures

pub returns : goal.returns
returns c = valued_end c.requires c.loop-b.invariant c.loop-b-test.false
