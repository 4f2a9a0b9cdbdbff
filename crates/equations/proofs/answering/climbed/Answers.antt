-- `equations::answering::climbed` meets its contract. Assumes nothing.
use mathlib.Core.Path.{◌∙◌}
use Rattle.depthfirst.proofs.Answers.{no_ring_after}
use Rattle.equations.proofs.Knowing.{room_kept}
use Rattle.equations.proofs.answering.climbed.Goals as goal

pub walk-requires : goal.walk-requires
walk-requires c =
    record {
      arrays = c.requires.known.arrays;
      rooms = c.requires.room.rooms;
      root_lt_count = c.requires.one_root.low;
    }

pub grown-requires : goal.grown-requires
grown-requires c =
    record {
      known = c.requires.known;
      room = room_kept c.requires.room c.walk.auto.mark c.walk.auto.stack c.walk.auto.at c.walk.auto.order;
      climbed = record { root = c.args.root; before = c.args.order.now; all = c.requires.all_in_order; one = c.requires.one_root; way = c.in-Ok.ensures };
    }

pub unreachable-requires : goal.unreachable-requires
unreachable-requires c = absurd (no_ring_after c.requires.known.arrays c.requires.all_in_order (rw c.in_default.is at c.walk.ensures))

pub shape_of-marks : goal.shape_of-marks
shape_of-marks c = c.grown.auto.kinds ∙ c.walk.auto.mark

pub returns : goal.returns
returns c = c.grown.ensures
