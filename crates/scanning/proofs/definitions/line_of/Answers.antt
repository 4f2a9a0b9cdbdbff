-- `scanning::definitions::line_of` meets its contract. Assumes nothing.
use native.Mathlib.Omega.{arith}
use Rattle.scanning.proofs.Sites.{no_line, home_room, its_line}
use Rattle.scanning.proofs.definitions.line_of.Goals as goal

pub offset_bounds-defs-n : goal.offset_bounds-defs-n
offset_bounds-defs-n c = omega (arith, c.requires.room)

pub bounds-defs-n : goal.bounds-defs-n
bounds-defs-n c = omega (arith, c.requires.room)

pub returns-then-def-eq0 : goal.returns-then-def-eq0
returns-then-def-eq0 c = no_line c.requires c.if-def-eq0.true

pub overflow_sub-at : goal.overflow_sub-at
overflow_sub-at c = omega (arith, c.if-def-eq0.false, c.place-at.ensures)

pub line-requires : goal.line-requires
line-requires c = home_room c.requires c.if-def-eq0.false c.place-at.ensures

pub returns : goal.returns
returns c = its_line c.requires c.if-def-eq0.false c.place-at.ensures c.line.ensures
