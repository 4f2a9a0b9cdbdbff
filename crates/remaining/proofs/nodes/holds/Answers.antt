-- `remaining::nodes::holds` meets its contract. Assumes nothing.
use Rattle.remaining.proofs.Marking.{member_bit}
use Rattle.remaining.proofs.nodes.holds.Goals as goal

pub returns : goal.returns
returns c = member_bit c.args.set.now c.args.e
