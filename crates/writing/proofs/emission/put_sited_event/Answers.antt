-- `writing::emission::put_sited_event` meets its contract.
-- Assumes nothing.
use mathlib.Core.Path.{◌∙◌}
use Rattle.writing.proofs.Stores.{two_behind_5}
use Rattle.writing.proofs.emission.put_sited_event.Goals as goal

pub returns : goal.returns
returns c = two_behind_5 c.args.b.now _ _ _ _ _ _ _ c.requires c.ranges.site.fits c.put_event.ensures (c.copy_from_slice.ensures.after ∙ c.to_le_bytes.ensures)
