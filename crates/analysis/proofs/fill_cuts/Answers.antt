-- `fill_cuts` meets its contract: what the cut builder promises comes to 11, or to done.
-- Assumes nothing.
use mathlib.Core.Path.{refl}
use Rattle.analysis.proofs.Tables.{ground_readable, ground_room, cuts_are_full, cuts_are_done}
use Rattle.paper.specs.declared.refusal.Refusal.TheVariants.{CutsFull}
use Rattle.memory.proofs.Refusing.{refuses}
use Rattle.analysis.proofs.fill_cuts.Goals as goal

pub build_cuts-requires : goal.build_cuts-requires
build_cuts-requires c =
    record {
      readable = ground_readable c.requires.grounds;
      room = ground_room c.requires.grounds;
    }

pub returns-in-Err : goal.returns-in-Err
returns-in-Err c =
    λ t g. cuts_are_full g c.wipe.ensures
    (record { nodes = refl; cuts = c.build_cuts.auto.cut; gates = refl; added = refl; memo = c.build_cuts.auto.memo; heads = c.build_cuts.auto.heads; next = c.build_cuts.auto.next; marks = c.build_cuts.auto.marks; own = c.build_cuts.auto.own })
    c.in-Err.ensures (refuses CutsFull 0)

pub returns-in-Ok : goal.returns-in-Ok
returns-in-Ok c =
    λ t g. cuts_are_done g c.settle.ensures
    (record { nodes = refl; cuts = c.build_cuts.auto.cut; gates = refl; added = refl; memo = c.build_cuts.auto.memo; heads = c.build_cuts.auto.heads; next = c.build_cuts.auto.next; marks = c.build_cuts.auto.marks; own = c.build_cuts.auto.own })
    c.in-Ok.ensures refl refl refl refl refl refl
