-- `names::intern` meets its contract. Assumes nothing.
use native.Mathlib.Omega.{arith}
use Rattle.names.proofs.Interning.{interns_old, interns_added}
use Rattle.names.proofs.intern.Goals as goal

pub slot-h-requires : goal.slot-h-requires
slot-h-requires c =
    record {
      ends = c.name_end-end.ensures;
      le_slots = c.requires.interned.chains;
    }

pub find-requires : goal.find-requires
find-requires c =
    record {
      interned = c.requires.interned;
      ends = c.name_end-end.ensures;
      first = c.slot-h.ensures;
    }

pub overflow_cast-names : goal.overflow_cast-names
overflow_cast-names c = omega (arith, c.requires.at_in_bounds.0, c.requires.interned.short)

pub overflow_add-heads : goal.overflow_add-heads
overflow_add-heads c = omega (arith, c.requires.at_in_bounds.1, c.requires.interned.small)

pub overflow_add-result : goal.overflow_add-result
overflow_add-result c = omega (arith, c.requires.at_in_bounds.1, c.requires.interned.small)

pub returns-in-Some : goal.returns-in-Some
returns-in-Some c = interns_old c.requires.interned (rw c.in-Some.is at c.find.ensures)

pub returns : goal.returns
returns c = interns_added c.requires.interned c.requires.at_in_bounds c.slot-h.ensures (rw c.in_default.is at c.find.ensures) c.place-k.ensures
