-- `scanning::inputs::fill_row` meets its contract. Assumes nothing.
use native.Mathlib.Omega.{arith}
use Rattle.scanning.proofs.Filling.{fill_start, fill_here, fill_room, fill_some, fill_turn, fill_end}
use Rattle.scanning.proofs.inputs.fill_row.Goals as goal

pub loop-j-init : goal.loop-j-init
loop-j-init c = fill_start c.requires.row_at c.requires.text_value c.requires.text_in_bounds

pub next_in_line-to-requires : goal.next_in_line-to-requires
next_in_line-to-requires c = fill_here c.requires.gathered c.requires.row_at c.loop-j.invariant c.loop-j-test.true

pub look-requires : goal.look-requires
look-requires c =
    record {
      interned = c.requires.gathered.store;
      at_in_bounds = omega (arith, c.loop-j-test.true, c.requires.row_at.inside);
    }

pub unwrap-requires : goal.unwrap-requires
unwrap-requires c = fill_some c.requires.gathered c.requires.row_at c.loop-j.invariant c.loop-j-test.true c.next_in_line-to.ensures c.look.result c.look.ensures

pub offset_bounds-inputs-u : goal.offset_bounds-inputs-u
offset_bounds-inputs-u c = omega (arith, fill_room c.requires.gathered c.requires.row_at c.loop-j.invariant c.loop-j-test.true c.next_in_line-to.ensures c.requires.text_in_bounds)

pub bounds-inputs-u : goal.bounds-inputs-u
bounds-inputs-u c = omega (arith, fill_room c.requires.gathered c.requires.row_at c.loop-j.invariant c.loop-j-test.true c.next_in_line-to.ensures c.requires.text_in_bounds)

pub overflow_add-u : goal.overflow_add-u
overflow_add-u c = omega (arith, fill_room c.requires.gathered c.requires.row_at c.loop-j.invariant c.loop-j-test.true c.next_in_line-to.ensures c.requires.text_in_bounds)

pub loop-j-smaller : goal.loop-j-smaller
loop-j-smaller c = omega (arith, c.next_in_line-to.ensures.after, c.loop-j-test.true)

pub loop-j-preserved : goal.loop-j-preserved
loop-j-preserved c = fill_turn c.requires.gathered c.requires.row_at c.loop-j.invariant c.loop-j-test.true c.next_in_line-to.ensures (rw c.unwrap.ensures at c.look.ensures) (omega (arith, fill_room c.requires.gathered c.requires.row_at c.loop-j.invariant c.loop-j-test.true c.next_in_line-to.ensures c.requires.text_in_bounds))

pub shape_of-inputs : goal.shape_of-inputs
shape_of-inputs c = c.loop-j.invariant.long

pub returns : goal.returns
returns c = fill_end c.requires.gathered c.requires.row_at c.loop-j.invariant c.loop-j-test.false
