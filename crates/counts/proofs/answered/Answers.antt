-- `counts::answered` meets its contract. Assumes nothing.
use Rattle.std.proofs.Common.{arith}
use Rattle.counts.proofs.Parts.{part_long}
use Rattle.counts.proofs.answered.Goals as goal

pub slice_bounds-analyse-end : goal.slice_bounds-analyse-end
slice_bounds-analyse-end c = part_long _ 60000 (omega (arith, c.requires.0))

pub slice_bounds-analyse-end-2 : goal.slice_bounds-analyse-end-2
slice_bounds-analyse-end-2 c = part_long _ 60000 (omega (arith, c.requires.1))
