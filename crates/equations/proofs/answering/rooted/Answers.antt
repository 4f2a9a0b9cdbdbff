-- `equations::answering::rooted` meets its contract. Assumes nothing.
use mathlib.Core.Path.{refl}
use Rattle.equations.proofs.Rules.{no_root}
use Rattle.equations.proofs.Knowing.{room_kept}
use Rattle.equations.proofs.answering.rooted.Goals as goal

pub one_root-requires : goal.one_root-requires
one_root-requires c =
    record {
      arrays = c.requires.known.arrays;
      count_in_bounds = c.requires.room.rooms.marks;
    }

pub climbed-requires : goal.climbed-requires
climbed-requires c =
    record {
      known = c.requires.known;
      room = room_kept c.requires.room c.one_root.auto.mark refl refl refl;
      all_in_order = c.requires.all_in_order;
      one_root = rw c.in-Some.is at c.one_root.ensures;
    }

pub returns-in_default : goal.returns-in_default
returns-in_default c = rw c.from.ensures (no_root c.requires.known c.requires.all_in_order (rw c.in_default.is at c.one_root.ensures))

pub returns : goal.returns
returns c = c.climbed.ensures
