-- `exporting::pieces::lay_number` meets its contract. Assumes nothing.
use Rattle.exporting.proofs.Laying.{lay_digits}
use Rattle.exporting.proofs.pieces.lay_number.Goals as goal

pub returns : goal.returns
returns c = lay_digits c.args.n c.lay-a.ensures c.digits-from.ensures c.digits-from.auto.room c.lay.ensures
