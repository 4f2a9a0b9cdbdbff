-- `exporting::pieces::lay_row` meets its contract. Assumes nothing.
use Rattle.exporting.proofs.Rows.{row_whole}
use Rattle.exporting.proofs.pieces.lay_row.Goals as goal

pub returns : goal.returns
returns c = row_whole c.args.sep.now c.args.inputs.now c.requires.0 c.lay_input-a.ensures c.lay_tail.ensures
