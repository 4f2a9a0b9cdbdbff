-- `scanning::inputs::fill_name` meets its contract. Assumes nothing.
use Rattle.std.proofs.Common.{Some, ap, ◌∙◌}
use native.Mathlib.Omega.{arith}
use Rattle.scanning.proofs.Rows.{or_row, or_is, and_row, and_is, least_row, least_is}
use Rattle.scanning.proofs.Filling.{bad_put, chance_put, inputs_of, size_of, known_of}
use Rattle.scanning.proofs.inputs.fill_name.Goals as goal

pub line_of-r-requires : goal.line_of-r-requires
line_of-r-requires c = c.requires.site

pub fill_row-requires : goal.fill_row-requires
fill_row-requires c =
    record {
      gathered = c.requires.gathered;
      row_at = or_row c.line_of-r.ensures (c.in-Some.is ∙ ap Some c.in-Or.is);
      text_value = known_of c.requires.site (or_is c.line_of-r.ensures (c.in-Some.is ∙ ap Some c.in-Or.is));
      text_in_bounds = omega (arith, size_of c.requires.site (or_is c.line_of-r.ensures (c.in-Some.is ∙ ap Some c.in-Or.is)), c.requires.n_in_bounds);
    }

pub fill_row-requires-in-And : goal.fill_row-requires-in-And
fill_row-requires-in-And c =
    record {
      gathered = c.requires.gathered;
      row_at = and_row c.line_of-r.ensures (c.in-Some.is ∙ ap Some c.in-And.is);
      text_value = known_of c.requires.site (and_is c.line_of-r.ensures (c.in-Some.is ∙ ap Some c.in-And.is));
      text_in_bounds = omega (arith, size_of c.requires.site (and_is c.line_of-r.ensures (c.in-Some.is ∙ ap Some c.in-And.is)), c.requires.n_in_bounds);
    }

pub fill_row-requires-in-AtLeast : goal.fill_row-requires-in-AtLeast
fill_row-requires-in-AtLeast c =
    record {
      gathered = c.requires.gathered;
      row_at = least_row c.line_of-r.ensures (c.in-Some.is ∙ ap Some c.in-AtLeast.is);
      text_value = known_of c.requires.site (least_is c.line_of-r.ensures (c.in-Some.is ∙ ap Some c.in-AtLeast.is));
      text_in_bounds = omega (arith, size_of c.requires.site (least_is c.line_of-r.ensures (c.in-Some.is ∙ ap Some c.in-AtLeast.is)), c.requires.n_in_bounds);
    }

pub returns-in_default : goal.returns-in_default
returns-in_default c = bad_put c.requires.site c.requires.n_in_bounds c.line_of-r.ensures c.in_default.is

pub returns-in-Chance : goal.returns-in-Chance
returns-in-Chance c = chance_put c.requires.site c.requires.n_in_bounds c.line_of-r.ensures (c.in-Some.is ∙ ap Some c.in-Chance.is)

pub returns-in-Or : goal.returns-in-Or
returns-in-Or c = rw (inputs_of c.requires.site (or_is c.line_of-r.ensures (c.in-Some.is ∙ ap Some c.in-Or.is))) c.fill_row.ensures

pub returns-in-And : goal.returns-in-And
returns-in-And c = rw (inputs_of c.requires.site (and_is c.line_of-r.ensures (c.in-Some.is ∙ ap Some c.in-And.is))) c.fill_row-in-And.ensures

pub returns-in-AtLeast : goal.returns-in-AtLeast
returns-in-AtLeast c = rw (inputs_of c.requires.site (least_is c.line_of-r.ensures (c.in-Some.is ∙ ap Some c.in-AtLeast.is))) c.fill_row-in-AtLeast.ensures
