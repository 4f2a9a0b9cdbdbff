-- `exporting::pieces::lay` meets its contract. Assumes nothing.
use Rattle.exporting.proofs.Laying.{lay_put, lay_past}
use Rattle.exporting.proofs.pieces.lay.Goals as goal

pub returns-then-at-s : goal.returns-then-at-s
returns-then-at-s c = lay_put c.put.ensures

pub returns : goal.returns
returns c = lay_past c.args.room.now c.args.at c.args.s.now c.if-at-s.false
