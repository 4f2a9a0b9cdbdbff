-- The invariant: the node at hand stands for g. Assumes nothing.
use Rattle.without.proofs.Apart.{past_none, past_more, past_less}
use Rattle.without.proofs.past.Goals as goal

pub loop-e-preserved : goal.loop-e-preserved
loop-e-preserved c = past_more c.loop-e.invariant c.if-e-nodes.false c.if-s-lt2.false
