-- `scanning::definitions::define_line` meets its contract. Assumes nothing.
use Rattle.std.proofs.Common.{sym, ◌∙◌, arith, refl}
use Rattle.scanning.proofs.Defining.{defining_other, left_some, left_room, defining_new, defining_twice}
use Rattle.scanning.proofs.definitions.define_line.Goals as goal

pub returns-then-not-is_equation : goal.returns-then-not-is_equation
returns-then-not-is_equation c = defining_other c.requires.defining c.line-r.ensures (sym c.is_equation.ensures ∙ c.if-not-is_equation.true)

pub unwrap-requires : goal.unwrap-requires
unwrap-requires c = left_some c.requires.defining c.line-r.ensures (sym c.is_equation.ensures ∙ c.if-not-is_equation.false) c.requires.gathered c.look.result c.look.ensures

pub bounds-defs-n : goal.bounds-defs-n
bounds-defs-n c = omega (arith, left_room c.requires.defining c.line-r.ensures (sym c.is_equation.ensures ∙ c.if-not-is_equation.false) c.requires.gathered (rw c.unwrap.ensures at c.look.ensures) c.place-n.ensures, c.requires.defining.room)

pub bounds-defs-n-then-defs-n-eq0 : goal.bounds-defs-n-then-defs-n-eq0
bounds-defs-n-then-defs-n-eq0 c = omega (arith, left_room c.requires.defining c.line-r.ensures (sym c.is_equation.ensures ∙ c.if-not-is_equation.false) c.requires.gathered (rw c.unwrap.ensures at c.look.ensures) c.place-n.ensures, c.requires.defining.room)

pub overflow_cast-defs : goal.overflow_cast-defs
overflow_cast-defs c = omega (arith, c.requires.at_in_bounds, c.requires.gathered.store.short)

pub returns-then-defs-n-eq0 : goal.returns-then-defs-n-eq0
returns-then-defs-n-eq0 c = defining_new c.requires.defining c.line-r.ensures (sym c.is_equation.ensures ∙ c.if-not-is_equation.false) c.requires.gathered (rw c.unwrap.ensures at c.look.ensures) c.place-n.ensures c.if-defs-n-eq0.true

pub returns : goal.returns
returns c = rw c.or.ensures (defining_twice c.requires.defining c.line-r.ensures (sym c.is_equation.ensures ∙ c.if-not-is_equation.false) c.requires.gathered (rw c.unwrap.ensures at c.look.ensures) c.place-n.ensures c.if-defs-n-eq0.false c.args.twice refl)
