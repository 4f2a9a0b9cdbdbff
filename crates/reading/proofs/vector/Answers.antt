-- `reading::vector` meets its contract.
-- Assumes nothing.
use mathlib.Core.Path.{sym}
use lib.Seq.{length-take-le}
use Rattle.reading.proofs.vector.Goals as goal

pub slice_bounds-report-end : goal.slice_bounds-report-end
slice_bounds-report-end g c = sym (length-take-le _ _ c.parse-n.ensures)
