-- `writing::emission::put_wide` meets its contract.
-- Assumes nothing.
use mathlib.Core.Path.{◌∙◌}
use Rattle.writing.proofs.Stores.{two_behind}
use Rattle.writing.proofs.emission.put_wide.Goals as goal

pub returns : goal.returns
returns c = two_behind c.args.b.now _ _ c.requires c.ranges.n.fits (c.copy_from_slice.ensures.after ∙ c.to_le_bytes.ensures)
