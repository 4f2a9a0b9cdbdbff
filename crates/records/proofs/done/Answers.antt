-- `records::done` meets its contract.
-- Assumes nothing.
use mathlib.Core.Path.{refl}
use Rattle.records.proofs.done.Goals as goal

pub returns : goal.returns
returns c = refl
