-- `scanning::numbering::gather_line` meets its contract. Assumes nothing.
use Rattle.std.proofs.Common.{Some, ap, ◌∙◌}
use Rattle.scanning.proofs.Rows.{line_at, or_row, or_is, and_row, and_is, least_row, least_is}
use Rattle.scanning.proofs.Gathering.{bad_line, chance_line_lem, or_after, and_after, least_after, equation_line}
use Rattle.scanning.proofs.numbering.gather_line.Goals as goal

pub line-r-requires : goal.line-r-requires
line-r-requires c = c.requires.at_in_bounds

pub gather_equation-n-requires : goal.gather_equation-n-requires
gather_equation-n-requires c =
    record {
      interned = c.requires.interned;
      row_at = or_row (line_at c.line-r.ensures) (c.in-Some.is ∙ ap Some c.in-Or.is);
      room = c.requires.room;
      at_lt_i = or_after c.line-r.ensures (c.in-Some.is ∙ ap Some c.in-Or.is);
    }

pub gather_equation-n-requires-in-And : goal.gather_equation-n-requires-in-And
gather_equation-n-requires-in-And c =
    record {
      interned = c.requires.interned;
      row_at = and_row (line_at c.line-r.ensures) (c.in-Some.is ∙ ap Some c.in-And.is);
      room = c.requires.room;
      at_lt_i = and_after c.line-r.ensures (c.in-Some.is ∙ ap Some c.in-And.is);
    }

pub gather_equation-n-requires-in-AtLeast : goal.gather_equation-n-requires-in-AtLeast
gather_equation-n-requires-in-AtLeast c =
    record {
      interned = c.requires.interned;
      row_at = least_row (line_at c.line-r.ensures) (c.in-Some.is ∙ ap Some c.in-AtLeast.is);
      room = c.requires.room;
      at_lt_i = least_after c.line-r.ensures (c.in-Some.is ∙ ap Some c.in-AtLeast.is);
    }

pub returns-in_default : goal.returns-in_default
returns-in_default c = bad_line c.line-r.ensures c.in_default.is c.requires.interned c.requires.room

pub returns-in-Chance : goal.returns-in-Chance
returns-in-Chance c = chance_line_lem c.line-r.ensures (c.in-Some.is ∙ ap Some c.in-Chance.is) c.requires.interned c.requires.room

pub returns-in-Or : goal.returns-in-Or
returns-in-Or c = equation_line c.line-r.ensures (or_row (line_at c.line-r.ensures) (c.in-Some.is ∙ ap Some c.in-Or.is)) (or_is (line_at c.line-r.ensures) (c.in-Some.is ∙ ap Some c.in-Or.is)) c.gather_equation-n.ensures

pub returns-in-And : goal.returns-in-And
returns-in-And c = equation_line c.line-r.ensures (and_row (line_at c.line-r.ensures) (c.in-Some.is ∙ ap Some c.in-And.is)) (and_is (line_at c.line-r.ensures) (c.in-Some.is ∙ ap Some c.in-And.is)) c.gather_equation-n-in-And.ensures

pub returns-in-AtLeast : goal.returns-in-AtLeast
returns-in-AtLeast c = equation_line c.line-r.ensures (least_row (line_at c.line-r.ensures) (c.in-Some.is ∙ ap Some c.in-AtLeast.is)) (least_is (line_at c.line-r.ensures) (c.in-Some.is ∙ ap Some c.in-AtLeast.is)) c.gather_equation-n-in-AtLeast.ensures
