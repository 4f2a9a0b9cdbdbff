-- `report::start_of` meets its contract. Assumes nothing.
use mathlib.Core.Path.{refl, sym, ◌∙◌}
use mathlib.Core.Bool.{true≢false, false≢true}
use Rattle.report.proofs.start_of.Goals as goal

pub returns-then-begin : goal.returns-then-begin
returns-then-begin c = record { all = λ _. c.empty.ensures; after = λ e. absurd (true≢false (sym c.if-begin.true ∙ e)) }

pub returns : goal.returns
returns c = record { all = λ e. absurd (false≢true (sym c.if-begin.false ∙ e)); after = λ _. refl }
