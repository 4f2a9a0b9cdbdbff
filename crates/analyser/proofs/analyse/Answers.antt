-- `analyser::analyse` meets its contract: the reading's number and place, or what the analysis of the tree promises. Assumes nothing.
use mathlib.Core.Path.{sym, ◌∙◌}
use Rattle.std.proofs.Common.{Err}
use Rattle.analyser.proofs.Outcomes.{reading_refused, reading_done, reading_tried}
use Rattle.analysis.proofs.Reading.{read_buildable}
use Rattle.analyser.proofs.analyse.Goals as goal

pub returns-in-Err : goal.returns-in-Err
returns-in-Err c = reading_refused _ (sym c.in-Err.is ∙ c.read.ensures.whole) (Err c.from.result) c.from.ensures _

pub analyse_tree-requires : goal.analyse_tree-requires
analyse_tree-requires c = read_buildable (reading_done _ (sym c.in-Ok.is ∙ c.read.ensures.whole))

pub returns-in-Ok : goal.returns-in-Ok
returns-in-Ok c = reading_tried _ (sym c.in-Ok.is ∙ c.read.ensures.whole) c.analyse_tree.ensures
