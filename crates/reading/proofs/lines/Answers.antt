-- `reading::lines` meets its contract.
-- Assumes nothing.
use Rattle.reading.proofs.lines.Goals as goal

pub loop-at-init : goal.loop-at-init
loop-at-init g c = tt

pub loop-at-preserved : goal.loop-at-preserved
loop-at-preserved g c = tt
