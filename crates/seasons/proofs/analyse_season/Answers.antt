-- `seasons::analyse_season` meets its contract: the reading's number and place, or what the analysis of the tree that was read promises. Assumes nothing.
use mathlib.Core.Path.{sym, ◌∙◌}
use Rattle.std.proofs.Common.{Err}
use Rattle.seasons.proofs.Outcomes.{under_refused, under_read, under_tried}
use Rattle.seasons.proofs.analyse_season.Goals as goal

pub returns-in-Err : goal.returns-in-Err
returns-in-Err c = under_refused _ (sym c.in-Err.is ∙ c.read.ensures.whole) (Err c.from.result) c.from.ensures _

pub analyse_read-requires : goal.analyse_read-requires
analyse_read-requires c = under_read _ (sym c.in-Ok.is ∙ c.read.ensures.whole)

pub returns-in-Ok : goal.returns-in-Ok
returns-in-Ok c = under_tried _ (sym c.in-Ok.is ∙ c.read.ensures.whole) c.analyse_read.ensures
