-- `writing::emission::put_event` meets its contract.
-- Assumes nothing.
use mathlib.Core.Path.{◌∙◌}
use Rattle.writing.proofs.Stores.{four_behind}
use Rattle.writing.proofs.emission.put_event.Goals as goal

pub returns : goal.returns
returns c = four_behind c.args.b.now c.args.kind c.args.c c.requires c.ranges.c.fits (c.copy_from_slice.ensures.after ∙ c.to_le_bytes.ensures)
