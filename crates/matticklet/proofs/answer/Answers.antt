-- `matticklet::answer` meets its contract. Assumes nothing.
use mathlib.Core.Path.{refl}
use Rattle.followup.proofs.Held.{held, readable}
use Rattle.matticklet.proofs.answer.Goals as goal

pub report-requires : goal.report-requires
report-requires g c = held _ c.in-Ok-read.ensures.whole c.in-Ok.ensures refl

pub unreachable-requires : goal.unreachable-requires
unreachable-requires g c = readable _ c.in_default.ensures.whole c.in-Ok.ensures refl
