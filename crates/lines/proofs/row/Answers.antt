-- `lines::row` meets its contract. Assumes nothing.
use native.Mathlib.Omega.{arith}
use mathlib.Core.Path.{refl, sym, ◌∙◌}
use Rattle.lines.proofs.Parts.{divides_some, starts_room}
use Rattle.lines.proofs.Names.{row_no_name, row_end, row_no_sep, row_next}
use Rattle.lines.proofs.row.Goals as goal

pub loop-i-init : goal.loop-i-init
loop-i-init c = (c.requires.i_in_bounds, refl)

pub returns-then-not-is_name : goal.returns-then-not-is_name
returns-then-not-is_name c = sym (c.loop-i.invariant.1 ∙ row_no_name c.requires.divides c.name_end-e.ensures (sym c.is_name.ensures ∙ c.if-not-is_name.true))

pub returns-then-e-s : goal.returns-then-e-s
returns-then-e-s c = sym (c.loop-i.invariant.1 ∙ row_end c.requires.divides c.name_end-e.ensures (omega (arith, c.if-e-s.true)) ∙ (sym c.is_name.ensures ∙ c.if-not-is_name.false))

pub returns-then-not-starts : goal.returns-then-not-starts
returns-then-not-starts c = sym (c.loop-i.invariant.1 ∙ row_no_sep c.requires.divides c.name_end-e.ensures (omega (arith, c.if-e-s.false, c.name_end-e.ensures.inside)) (sym c.starts.ensures ∙ c.if-not-starts.true))

pub overflow_add-j : goal.overflow_add-j
overflow_add-j c = omega (arith, starts_room c.args.sep.now c.args.s.now c.name_end-e.result c.name_end-e.ensures.inside (sym c.starts.ensures ∙ c.if-not-starts.false))

pub loop-i-smaller : goal.loop-i-smaller
loop-i-smaller c = omega (arith, divides_some c.requires.divides, c.name_end-e.ensures.from, c.name_end-e.ensures.inside, c.if-e-s.false)

pub loop-i-preserved : goal.loop-i-preserved
loop-i-preserved c = (starts_room c.args.sep.now c.args.s.now c.name_end-e.result c.name_end-e.ensures.inside (sym c.starts.ensures ∙ c.if-not-starts.false), c.loop-i.invariant.1 ∙ row_next c.requires.divides c.name_end-e.ensures (sym c.is_name.ensures ∙ c.if-not-is_name.false) (sym c.starts.ensures ∙ c.if-not-starts.false))
