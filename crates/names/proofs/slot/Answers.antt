-- `names::slot` meets its contract. Assumes nothing.
use Rattle.names.proofs.Interning.{mixing_start, mixing_next, mixing_end}
use Rattle.names.proofs.slot.Goals as goal

pub loop-b-init : goal.loop-b-init
loop-b-init c = mixing_start c.requires.ends

pub loop-b-preserved : goal.loop-b-preserved
loop-b-preserved c = mixing_next c.requires.ends c.loop-b.invariant c.loop-b-test.true c.from.ensures

pub returns : goal.returns
returns c = mixing_end c.requires.ends c.loop-b.invariant c.loop-b-test.false c.requires.le_slots
