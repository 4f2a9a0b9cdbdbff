-- `sets::remove` meets its contract. Assumes nothing.
use Rattle.sets.proofs.Words.{take_out}
use Rattle.sets.proofs.remove.Goals as goal

pub returns : goal.returns
returns c = take_out c.args.ws.now c.args.i c.requires.0 c.requires.1
