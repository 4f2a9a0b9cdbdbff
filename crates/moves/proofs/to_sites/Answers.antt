-- `moves::to_sites` meets its contract.
-- Assumes nothing.
use mathlib.Core.Path.{sym, ◌∙◌}
use Rattle.records.proofs.Closing.{passed_on}
use Rattle.moves.proofs.Moving.{to_refused, to_done}
use Rattle.moves.proofs.to_sites.Goals as goal

pub returns : goal.returns
returns c = to_done c.args.bytes.now (sym c.in_ok-t.was ∙ c.read.ensures.whole) c.args.room.now c.write.ensures

pub returns-in_err-t : goal.returns-in_err-t
returns-in_err-t c = rw (passed_on c.from_residual.ensures.1) (to_refused c.args.bytes.now (sym c.in_err-t.was ∙ c.read.ensures.whole) c.args.room.now)
