-- `scanning::numbering::gather_equation` meets its contract. Assumes nothing.
use native.Mathlib.Omega.{arith}
use Rattle.scanning.proofs.Gathering.{room_behind, gathers_equation}
use Rattle.scanning.proofs.numbering.gather_equation.Goals as goal

pub intern-n-requires : goal.intern-n-requires
intern-n-requires c =
    record {
      interned = c.requires.interned;
      at_in_bounds = (omega (arith, c.requires.at_lt_i, c.requires.row_at.from, c.requires.row_at.inside), omega (arith, c.requires.at_lt_i, c.requires.row_at.from, c.requires.row_at.inside, c.requires.room.long, c.requires.room.low));
    }

pub gather_row-requires : goal.gather_row-requires
gather_row-requires c =
    record {
      interned = c.intern-n.ensures.store;
      row_at = c.requires.row_at;
      room = room_behind c.intern-n.ensures c.requires.room c.requires.at_lt_i;
    }

pub returns : goal.returns
returns c = gathers_equation c.intern-n.ensures c.gather_row.ensures
