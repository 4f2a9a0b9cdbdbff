-- `scanning::numbering::gather_row` meets its contract. Assumes nothing.
use native.Mathlib.Omega.{arith}
use Rattle.scanning.proofs.Gathering.{row_start, row_room, row_here, row_turn, row_end}
use Rattle.scanning.proofs.numbering.gather_row.Goals as goal

pub loop-j-init : goal.loop-j-init
loop-j-init c = row_start c.requires.interned c.requires.row_at c.requires.room

pub intern-n-requires : goal.intern-n-requires
intern-n-requires c =
    record {
      interned = c.loop-j.invariant.store;
      at_in_bounds = row_room c.requires.row_at c.loop-j.invariant c.requires.room c.loop-j-test.true;
    }

pub next_in_line-j-requires : goal.next_in_line-j-requires
next_in_line-j-requires c = row_here c.requires.row_at c.loop-j.invariant c.loop-j-test.true

pub loop-j-smaller : goal.loop-j-smaller
loop-j-smaller c = omega (arith, c.next_in_line-j.ensures.after, c.loop-j-test.true)

pub loop-j-preserved : goal.loop-j-preserved
loop-j-preserved c = row_turn c.requires.row_at c.loop-j.invariant c.loop-j-test.true c.intern-n.ensures c.next_in_line-j.ensures

pub returns : goal.returns
returns c = row_end c.requires.row_at c.loop-j.invariant c.loop-j-test.false
