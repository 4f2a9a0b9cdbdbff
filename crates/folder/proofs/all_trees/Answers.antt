-- `folder::all_trees` meets its contract. Assumes nothing.
use native.Mathlib.Omega.{arith}
use mathlib.Core.Path.{refl, ◌∙◌}
use Rattle.paper.proofs.Refusals.{number_above}
use Rattle.folder.proofs.Going.{tree_says, end_says, areas_kept, turn_lent, turn_areas, next_in, going_refused, going_more, going_end}
use Rattle.folder.proofs.all_trees.Goals as goal

pub overflow_add-end : goal.overflow_add-end
overflow_add-end c = omega (arith, (next_in c.loop-i.invariant c.loop-i-test.true c.requires.0), c.well_formed.0)

pub slice_bounds-analyse-end : goal.slice_bounds-analyse-end
slice_bounds-analyse-end c = omega (arith, (next_in c.loop-i.invariant c.loop-i-test.true c.requires.0))

pub returns-in-Err : goal.returns-in-Err
returns-in-Err c = going_refused c.loop-i.invariant c.loop-i-test.true c.in-Err.ensures (λ z. let h = number_above c.in-Err.refused.why in omega (arith, h, z)) (tree_says c.in-Err.refused _)

pub add_tree-fits-requires : goal.add_tree-fits-requires
add_tree-fits-requires c = (
  turn_lent c.in-Ok.ensures refl,
  turn_areas c.in-Ok.ensures refl (areas_kept c.loop-i.invariant.kept c.requires.1),
  c.loop-i.auto.totals ∙ c.requires.2,
)

pub loop-i-preserved : goal.loop-i-preserved
loop-i-preserved c =
    going_more c.loop-i.invariant c.loop-i-test.true c.in-Ok.ensures refl c.add_tree-fits.ensures
    (record {
      memory = record { nodes = c.analyse.auto.nodes; cuts = c.analyse.auto.cuts; gates = c.analyse.auto.gates; added = c.analyse.auto.added; memo = c.analyse.auto.memo; heads = c.analyse.auto.heads; next = c.analyse.auto.next; marks = c.analyse.auto.marks; own = c.analyse.auto.own };
      less = c.add_tree-fits.auto.less;
      work = c.add_tree-fits.auto.work;
      reached = c.add_tree-fits.auto.reached;
    })

pub returns : goal.returns
returns c = rw c.ok_or.ensures.value (going_end c.loop-i.invariant c.loop-i-test.false (end_says _ c.of_no_tree.ensures))
