-- `counts::analysed` meets its contract. Assumes nothing.
use mathlib.Core.Path.{refl}
use Rattle.std.proofs.Common.{arith}
use Rattle.followup.proofs.Held.{held, readable}
use Rattle.counts.proofs.analysed.Goals as goal

pub report-requires : goal.report-requires
report-requires g c = held _ c.in-Ok-read.ensures.whole c.in-Ok.ensures refl

pub unreachable-requires : goal.unreachable-requires
unreachable-requires g c = readable _ c.in_default.ensures.whole c.in-Ok.ensures refl

pub say_rooms-requires : goal.say_rooms-requires
say_rooms-requires g c = let h = held _ c.in-Ok-read.ensures.whole c.in-Ok.ensures refl in let n = h.nodes.lent.fits in let m = h.cuts.fits in (omega arith, omega arith)
