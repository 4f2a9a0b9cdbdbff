-- `lines::right` meets its contract. Assumes nothing.
use native.Mathlib.Omega.{arith}
use mathlib.Core.Path.{sym, ◌∙◌}
use Rattle.paper.specs.Grammar.{at_least_word}
use Rattle.lines.specs.Reading.{name_at}
use Rattle.lines.proofs.Parts.{starts_room}
use Rattle.lines.proofs.Judging.{and_divides, or_divides, right_counted, right_or, right_and, right_bad}
use Rattle.lines.proofs.right.Goals as goal

pub starts-requires : goal.starts-requires
starts-requires c = c.requires.1

pub overflow_add-j : goal.overflow_add-j
overflow_add-j c = omega (arith, starts_room at_least_word c.args.s.now c.args.i c.requires.1 (sym c.starts.ensures ∙ c.if-starts.true))

pub counted-requires : goal.counted-requires
counted-requires c = (omega (arith, c.requires.0), starts_room at_least_word c.args.s.now c.args.i c.requires.1 (sym c.starts.ensures ∙ c.if-starts.true))

pub returns-then-starts : goal.returns-then-starts
returns-then-starts c = right_counted c.args.s.now (name_at c.args.s.now c.args.at) c.args.i c.args.at c.counted.result (sym c.starts.ensures ∙ c.if-starts.true) c.counted.ensures

pub row-requires : goal.row-requires
row-requires c =
    record {
      i_in_bounds = c.requires.1;
      divides = or_divides;
    }

pub returns-then-row : goal.returns-then-row
returns-then-row c = right_or c.args.s.now (name_at c.args.s.now c.args.at) c.args.i (sym c.starts.ensures ∙ c.if-starts.false) c.requires (sym c.row.ensures ∙ c.if-row.true)

pub row-requires-2 : goal.row-requires-2
row-requires-2 c =
    record {
      i_in_bounds = c.requires.1;
      divides = and_divides;
    }

pub returns-then-row-2 : goal.returns-then-row-2
returns-then-row-2 c = right_and c.args.s.now (name_at c.args.s.now c.args.at) c.args.i (sym c.starts.ensures ∙ c.if-starts.false) c.requires (sym c.row.ensures ∙ c.if-row.false) (sym c.row-2.ensures ∙ c.if-row-2.true)

pub returns : goal.returns
returns c = right_bad c.args.s.now (name_at c.args.s.now c.args.at) c.args.i (sym c.starts.ensures ∙ c.if-starts.false) (sym c.row.ensures ∙ c.if-row.false) (sym c.row-2.ensures ∙ c.if-row-2.false)
