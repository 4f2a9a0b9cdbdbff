-- `remaining::marks::mark_of` meets its contract. Assumes nothing.
use Rattle.remaining.proofs.Marking.{by_failed, mark_failed, mark_sound}
use Rattle.remaining.proofs.marks.mark_of.Goals as goal

pub returns-then-by_failed : goal.returns-then-by_failed
returns-then-by_failed c = mark_failed c.read_node-d.ensures (by_failed c.read_node-d.ensures c.requires.marks c.by_failed.ensures) c.if-by_failed.true

pub returns : goal.returns
returns c = mark_sound c.read_node-d.ensures c.requires.marks (by_failed c.read_node-d.ensures c.requires.marks c.by_failed.ensures) c.if-by_failed.false
