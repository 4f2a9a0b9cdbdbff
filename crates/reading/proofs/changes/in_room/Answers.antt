-- `reading::changes::in_room` meets its contract.
-- Assumes nothing.
use lib.ListN.{length-take, length-replicate}
use native.Mathlib.Omega.{arith}
use Rattle.reading.proofs.changes.in_room.Goals as goal

pub slice_bounds-write-end : goal.slice_bounds-write-end
slice_bounds-write-end g c = simp (length-take, length-replicate) (omega arith)
