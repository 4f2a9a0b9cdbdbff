-- `lines::next_name` meets its contract. Assumes nothing.
use native.Mathlib.Omega.{arith}
use Rattle.lines.proofs.Names.{steps_last, steps_more}
use Rattle.lines.proofs.next_name.Goals as goal

pub name_end-e-requires : goal.name_end-e-requires
name_end-e-requires c = c.requires.i_in_bounds

pub returns-then-e-s : goal.returns-then-e-s
returns-then-e-s c = steps_last c.requires.divides c.name_end-e.ensures c.requires.s_value (omega (arith, c.if-e-s.true))

pub overflow_add-result : goal.overflow_add-result
overflow_add-result c = omega (arith, (steps_more c.requires.divides c.name_end-e.ensures c.requires.s_value (omega (arith, c.if-e-s.false, c.name_end-e.ensures.inside))).inside)

pub returns : goal.returns
returns c = steps_more c.requires.divides c.name_end-e.ensures c.requires.s_value (omega (arith, c.if-e-s.false, c.name_end-e.ensures.inside))
