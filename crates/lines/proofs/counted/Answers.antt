-- `lines::counted` meets its contract. Assumes nothing.
use native.Mathlib.Omega.{arith}
use mathlib.Core.Path.{sym, ◌∙◌}
use Rattle.paper.specs.Grammar.{in_word}
use Rattle.lines.specs.Reading.{name_at}
use Rattle.lines.proofs.Parts.{starts_room}
use Rattle.lines.proofs.Judging.{comma_divides, counted_no_number, counted_no_in, counted_no_row, counted_good}
use Rattle.lines.proofs.counted.Goals as goal

pub returns-then-not-is_number : goal.returns-then-not-is_number
returns-then-not-is_number c = counted_no_number (name_at c.args.s.now c.args.at) c.digits_end-d.ensures (sym c.is_number.ensures ∙ c.if-not-is_number.true)

pub returns-then-not-starts : goal.returns-then-not-starts
returns-then-not-starts c = counted_no_in (name_at c.args.s.now c.args.at) c.digits_end-d.ensures (sym c.starts.ensures ∙ c.if-not-starts.true)

pub overflow_add-j : goal.overflow_add-j
overflow_add-j c = omega (arith, starts_room in_word c.args.s.now c.digits_end-d.result c.digits_end-d.ensures.inside (sym c.starts.ensures ∙ c.if-not-starts.false))

pub row-requires : goal.row-requires
row-requires c =
    record {
      i_in_bounds = starts_room in_word c.args.s.now c.digits_end-d.result c.digits_end-d.ensures.inside (sym c.starts.ensures ∙ c.if-not-starts.false);
      divides = comma_divides;
    }

pub returns-then-not-row : goal.returns-then-not-row
returns-then-not-row c = counted_no_row (name_at c.args.s.now c.args.at) c.digits_end-d.ensures (sym c.starts.ensures ∙ c.if-not-starts.false) (sym c.row.ensures ∙ c.if-not-row.true)

pub returns : goal.returns
returns c = counted_good (name_at c.args.s.now c.args.at) c.digits_end-d.ensures (sym c.starts.ensures ∙ c.if-not-starts.false) c.requires.0 (sym c.is_number.ensures ∙ c.if-not-is_number.false) (sym c.row.ensures ∙ c.if-not-row.false) c.value.ensures
