-- `text::put_number` meets its contract. Assumes nothing.
use Rattle.text.proofs.Putting.{put_digits}
use Rattle.text.proofs.put_number.Goals as goal

pub returns : goal.returns
returns c = put_digits c.args.n c.digits-from.ensures c.digits-from.auto.room c.put.ensures
