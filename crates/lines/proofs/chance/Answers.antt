-- `lines::chance` meets its contract. Assumes nothing.
use native.Mathlib.Omega.{arith}
use mathlib.Core.Path.{refl, sym, ◌∙◌}
use Rattle.paper.specs.Grammar.{blank}
use Rattle.lines.proofs.Parts.{starts_room}
use Rattle.lines.proofs.Judging.{chance_no_name, chance_no_blank, chance_tail, chance_no_number, chance_good}
use Rattle.lines.proofs.chance.Goals as goal

pub returns-then-not-is_name : goal.returns-then-not-is_name
returns-then-not-is_name c = chance_no_name c.name_end-e.ensures (sym c.is_name.ensures ∙ c.if-not-is_name.true)

pub returns-then-not-starts : goal.returns-then-not-starts
returns-then-not-starts c = chance_no_blank c.name_end-e.ensures (sym c.starts.ensures ∙ c.if-not-starts.true)

pub overflow_add-j : goal.overflow_add-j
overflow_add-j c = omega (arith, starts_room blank c.args.s.now c.name_end-e.result c.name_end-e.ensures.inside (sym c.starts.ensures ∙ c.if-not-starts.false))

pub digits_end-d-requires : goal.digits_end-d-requires
digits_end-d-requires c = starts_room blank c.args.s.now c.name_end-e.result c.name_end-e.ensures.inside (sym c.starts.ensures ∙ c.if-not-starts.false)

pub returns-then-d-s : goal.returns-then-d-s
returns-then-d-s c = chance_tail c.name_end-e.ensures (sym c.starts.ensures ∙ c.if-not-starts.false) c.digits_end-d.ensures c.if-d-s.true

pub returns-then-not-is_number : goal.returns-then-not-is_number
returns-then-not-is_number c = chance_no_number c.name_end-e.ensures (sym c.starts.ensures ∙ c.if-not-starts.false) c.digits_end-d.ensures c.if-d-s.false (sym c.is_number.ensures ∙ c.if-not-is_number.true)

pub returns : goal.returns
returns c = chance_good c.name_end-e.ensures (sym c.starts.ensures ∙ c.if-not-starts.false) c.digits_end-d.ensures c.args.at refl c.requires c.if-d-s.false (sym c.is_name.ensures ∙ c.if-not-is_name.false) (sym c.is_number.ensures ∙ c.if-not-is_number.false) c.value.ensures
