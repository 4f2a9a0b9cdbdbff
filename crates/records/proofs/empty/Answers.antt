-- `records::empty` meets its contract.
-- Assumes nothing.
use mathlib.Core.Path.{refl}
use Rattle.records.specs.Memory.{pad, memory}
use Rattle.records.proofs.empty.Goals as goal

pub returns : goal.returns
unfolding memory pad
returns c = rw c.no_event-none.ensures refl
