-- `filling::fill` meets its contract: what the builders promise comes to 10, 11, or done. Assumes nothing.
use mathlib.Core.Path.{refl}
use Rattle.analysis.proofs.Reading.{build_lengths, build_areas, whole_in, over_in}
use Rattle.analysis.proofs.Filling.{nodes_are_full, nodes_do_fit}
use Rattle.paper.specs.declared.refusal.Refusal.TheVariants.{NodesFull}
use Rattle.memory.proofs.Refusing.{refuses}
use Rattle.analysis.proofs.fill.Goals as goal

pub build_tree-requires : goal.build_tree-requires
build_tree-requires c =
    record {
      arrays = c.requires.buildable.arrays;
      areas = build_areas c.requires.lengths;
      gate_count_in_bounds = c.requires.lengths.gate_list;
      gate_count_in_bounds_2 = c.requires.lengths.added_list;
    }

pub fill_cuts-requires : goal.fill_cuts-requires
fill_cuts-requires c =
    record {
      tree = _;
      grounds = record {
        sound = c.requires.buildable.sound;
        whole = whole_in c.args.tree c.in-Ok.ensures;
        lengths = build_lengths c.requires.buildable (record { nodes = c.build_tree.auto.nodes; cuts = refl; gates = c.build_tree.auto.gates; added = c.build_tree.auto.added; memo = c.build_tree.auto.memo; heads = c.build_tree.auto.heads; next = c.build_tree.auto.next; marks = refl; own = refl }) c.requires.lengths;
      };
    }

pub returns-in-Err : goal.returns-in-Err
returns-in-Err c =
    nodes_are_full c.requires.buildable.sound c.wipe.ensures (record { nodes = c.build_tree.auto.nodes; cuts = refl; gates = c.build_tree.auto.gates; added = c.build_tree.auto.added; memo = c.build_tree.auto.memo; heads = c.build_tree.auto.heads; next = c.build_tree.auto.next; marks = refl; own = refl })
    (over_in c.args.tree c.in-Err.ensures) (refuses NodesFull _)

pub returns-in-Ok : goal.returns-in-Ok
returns-in-Ok c =
    let w = whole_in c.args.tree c.in-Ok.ensures in
    nodes_do_fit c.requires.buildable.sound (record { nodes = c.build_tree.auto.nodes; cuts = refl; gates = c.build_tree.auto.gates; added = c.build_tree.auto.added; memo = c.build_tree.auto.memo; heads = c.build_tree.auto.heads; next = c.build_tree.auto.next; marks = refl; own = refl }) w
    (c.fill_cuts.ensures _ (record { sound = c.requires.buildable.sound; whole = w; lengths = build_lengths c.requires.buildable (record { nodes = c.build_tree.auto.nodes; cuts = refl; gates = c.build_tree.auto.gates; added = c.build_tree.auto.added; memo = c.build_tree.auto.memo; heads = c.build_tree.auto.heads; next = c.build_tree.auto.next; marks = refl; own = refl }) c.requires.lengths }))
