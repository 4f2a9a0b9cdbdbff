-- `sizes::take` meets its contract. Assumes nothing.
use Rattle.sizes.proofs.Reaching.{takes_marked, takes_none}
use Rattle.sizes.proofs.take.Goals as goal

pub returns-then-reached-i-ne1 : goal.returns-then-reached-i-ne1
returns-then-reached-i-ne1 c = takes_none c.if-reached-i-ne1.true

pub returns : goal.returns
returns c = takes_marked c.if-reached-i-ne1.false
