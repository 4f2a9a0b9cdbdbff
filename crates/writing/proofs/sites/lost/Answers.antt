-- `writing::sites::lost` meets its contract.
-- Assumes nothing.
use Rattle.writing.proofs.sites.lost.Goals as goal

pub returns-then-t : goal.returns-then-t
returns-then-t c = (simp c.if-t.true, tt)

pub returns-else-t : goal.returns-else-t
returns-else-t c = (simp c.if-t.false c.first_site.ensures.0, c.first_site.ensures.1)
