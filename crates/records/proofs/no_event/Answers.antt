-- `records::no_event` meets its contract.
-- Assumes nothing.
use mathlib.Core.Path.{refl}
use Rattle.records.proofs.no_event.Goals as goal

pub returns : goal.returns
returns c = refl
