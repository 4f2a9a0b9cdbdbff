-- `sets::add` meets its contract. Assumes nothing.
use Rattle.sets.proofs.Words.{put_in}
use Rattle.sets.proofs.add.Goals as goal

pub returns : goal.returns
returns c = put_in c.args.ws.now c.args.i c.requires
