-- `exported::matticklet_read` meets its contract. Assumes nothing.
use mathlib.Core.Path.{sym, ◌∙◌}
use Rattle.exported.proofs.Answers.{read_numbers, read_arrays, read_blank, refused_numbers, refused_arrays}
use Rattle.exported.proofs.matticklet_read.Goals as goal

pub fill-requires : goal.fill-requires
fill-requires c = read_blank _ (sym c.in-Ok.is ∙ c.read-r.ensures.whole)

pub returns : goal.returns
returns c =
    record {
      answer_after = read_numbers _ (sym c.in-Ok.is ∙ c.read-r.ensures.whole);
      inputs_after = read_arrays _ (sym c.in-Ok.is ∙ c.read-r.ensures.whole) _ c.fill.ensures;
    }

pub returns-in_default : goal.returns-in_default
returns-in_default c =
    record {
      answer_after = refused_numbers _ (sym c.in_default.is ∙ c.read-r.ensures.whole) (rw c.in_default.is at c.number-number.ensures) (rw c.in_default.is at c.place-place.ensures);
      inputs_after = refused_arrays _ (sym c.in_default.is ∙ c.read-r.ensures.whole) _;
    }
