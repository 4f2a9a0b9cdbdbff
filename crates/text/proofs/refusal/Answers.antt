-- `text::refusal` meets its contract. Assumes nothing.
use mathlib.Core.Path.{refl}
use Rattle.text.proofs.Putting.{put_counts}
use Rattle.text.proofs.refusal.Goals as goal

pub returns : goal.returns
returns c = rw (← c.from.ensures) (put_counts c.put_pair.ensures refl)
