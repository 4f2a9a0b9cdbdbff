-- `exporting::pieces::lay_tail` meets its contract. Assumes nothing.
use Rattle.exporting.proofs.Rows.{row_more, row_end}
use Rattle.exporting.proofs.pieces.lay_tail.Goals as goal

pub loop-i-preserved : goal.loop-i-preserved
loop-i-preserved c = row_more c.loop-i.invariant c.loop-i-test.true c.lay_next-end.ensures

pub returns : goal.returns
returns c = row_end c.loop-i.invariant c.loop-i-test.false
