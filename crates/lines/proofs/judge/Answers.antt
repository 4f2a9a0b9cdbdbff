-- `lines::judge` meets its contract. Assumes nothing.
use native.Mathlib.Omega.{arith}
use mathlib.Core.Path.{sym, ◌∙◌}
use Rattle.paper.specs.Grammar.{chance_word, equals}
use Rattle.lines.specs.Reading.{name_at}
use Rattle.lines.proofs.Parts.{starts_room}
use Rattle.lines.proofs.Judging.{judge_chance, judge_no_name, judge_no_equals, judge_right}
use Rattle.lines.proofs.judge.Goals as goal

pub chance-requires : goal.chance-requires
chance-requires c = starts_room chance_word c.args.s.now c.args.at c.requires (sym c.starts.ensures ∙ c.if-starts.true)

pub returns-then-starts : goal.returns-then-starts
returns-then-starts c = judge_chance c.args.s.now (name_at c.args.s.now c.args.at) c.args.at c.chance.result (sym c.starts.ensures ∙ c.if-starts.true) c.chance.ensures

pub returns-then-not-is_name : goal.returns-then-not-is_name
returns-then-not-is_name c = judge_no_name c.name_end-e.ensures (sym c.starts.ensures ∙ c.if-starts.false) (sym c.is_name.ensures ∙ c.if-not-is_name.true)

pub starts-requires-2 : goal.starts-requires-2
starts-requires-2 c = c.name_end-e.ensures.inside

pub returns-then-not-starts : goal.returns-then-not-starts
returns-then-not-starts c = judge_no_equals c.name_end-e.ensures (sym c.starts.ensures ∙ c.if-starts.false) (sym c.starts-2.ensures ∙ c.if-not-starts.true)

pub overflow_add-i : goal.overflow_add-i
overflow_add-i c = omega (arith, starts_room equals c.args.s.now c.name_end-e.result c.name_end-e.ensures.inside (sym c.starts-2.ensures ∙ c.if-not-starts.false))

pub right-requires : goal.right-requires
right-requires c = (omega (arith, c.name_end-e.ensures.from), starts_room equals c.args.s.now c.name_end-e.result c.name_end-e.ensures.inside (sym c.starts-2.ensures ∙ c.if-not-starts.false))

pub returns : goal.returns
returns c = judge_right c.name_end-e.ensures (sym c.starts.ensures ∙ c.if-starts.false) (name_at c.args.s.now c.args.at) c.right.result (sym c.is_name.ensures ∙ c.if-not-is_name.false) (sym c.starts-2.ensures ∙ c.if-not-starts.false) c.right.ensures
