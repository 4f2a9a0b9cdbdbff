-- `equations::answering::walked` meets its contract. Assumes nothing.
use native.Mathlib.Omega.{arith}
use Rattle.equations.specs.Judging.{ends}
use Rattle.equations.proofs.Rings.{ring_at}
use mathlib.Core.Path.{refl, ◌∙◌}
use Rattle.equations.proofs.Rules.{ring_judged}
use Rattle.equations.proofs.Knowing.{room_kept, all_count}
use Rattle.equations.proofs.answering.walked.Goals as goal

pub walk_all-requires : goal.walk_all-requires
walk_all-requires c =
    record {
      arrays = c.requires.known.arrays;
      rooms = c.requires.room.rooms;
    }

pub show_ring-requires : goal.show_ring-requires
show_ring-requires c = ring_at c.requires.known (rw c.in-Err.is at c.walk_all.ensures) (omega (arith, c.walk_all.auto.stack, c.requires.heads_in_bounds.0)) c.requires.heads_in_bounds.1

pub overflow_sub-result : goal.overflow_sub-result
overflow_sub-result c = omega (arith, (rw c.in-Err.is at c.walk_all.ensures).some)

pub rooted-requires : goal.rooted-requires
rooted-requires c =
    record {
      known = c.requires.known;
      room = room_kept c.requires.room c.walk_all.auto.mark c.walk_all.auto.stack c.walk_all.auto.at c.walk_all.auto.order;
      all_in_order = all_count (rw c.in-Ok.is at c.walk_all.ensures);
    }

pub returns-in-Err : goal.returns-in-Err
returns-in-Err c = ring_judged c.requires.known (rw c.in-Err.is at c.walk_all.ensures) c.show_ring.ensures

pub shape_of-marks-in-Ok : goal.shape_of-marks-in-Ok
shape_of-marks-in-Ok c = c.rooted.auto.marks ∙ c.walk_all.auto.mark

pub returns-in-Ok : goal.returns-in-Ok
returns-in-Ok c = ends c.rooted.ensures refl
