-- The stored nodes are those that are needed: from the builders' promises, which speak of diagrams, to functions and families.
-- Assumes nothing.
use mathlib.Core.Path.{◌≡◌, ap, ◌∙◌, subst}
use mathlib.Core.List.{List}
use Prim.Native.Nat.{ℕ}
use Rattle.paper.specs.Lists.{In, keep, flat}
use Rattle.paper.specs.Functions.{Fun, table}
use Rattle.paper.specs.Trees.{Gate, TreeBelow}
use Rattle.paper.specs.Steps.{step_funs}
use Rattle.paper.specs.Nodes.{needed}
use Rattle.paper.specs.Diagrams.{Diagram, eval}
use Rattle.paper.specs.Cuts.{cuts_needed}
use Rattle.algebra.specs.Operations.{subs, is_node, step_diagrams}
use Rattle.algebra.specs.Families.{holds}
use Rattle.algebra.proofs.Lists.{in_keep, keep_in, in_flat, flat_in}
use Rattle.algebra.proofs.Without.{Fit}
use Rattle.algebra.proofs.Gates.{step_needed, needed_step}
use Rattle.algebra.proofs.CutCount.{cut_node_needed, needed_cut_node}
use Rattle.tables.specs.Table.{den}
use Rattle.store.specs.Building.{PartOf}
use Rattle.store.proofs.Denotes.{found_whole}
use Rattle.build.specs.Finishing.{Whole}
use Rattle.cuts.specs.Cutting.{families, CutTable}
use Rattle.memory.specs.Outcome.{function_of, family_of, Holds}

-- a node of one of these diagrams, as a member of the list of all their nodes
part_in : (ds : List Diagram) (E : Diagram) → PartOf ds E → In E (keep is_node (flat subs ds))
part_in ds E p = in_keep is_node E (flat subs ds) (in_flat subs E p.whole ds p.member p.part.inside) p.part.node

in_part : (ds : List Diagram) (E : Diagram) → In E (keep is_node (flat subs ds)) → PartOf ds E
in_part ds E h =
    let (k, q) = keep_in is_node E (flat subs ds) h in
    let (d, m, l) = flat_in subs E ds k in
    record { whole = d; member = m; part = record { inside = l; node = q } }

-- THE NODE TABLE holds a node for each needed function, and no other
pub whole_holds : (n : ℕ) (t : List Gate) → TreeBelow n t → {G A T H X : List ℕ} {root c : ℕ} → Whole t G A T H X root c → Holds (function_of n T) c (needed n (step_funs t))
whole_holds n t b {T = T} w = record {
  only = λ i l h. step_needed n t b (den T i) (part_in (step_diagrams t) (den T i) (w.only.each i l h));
  all = λ Y h.
      let (x, k, e) = needed_step n t b Y h in
      let p = in_part (step_diagrams t) x k in
      let (r, f) = w.all.each p.whole p.member in
      let g = found_whole w.store.lower f x p.part in
      (g.at, g.low, g.high, ap (λ d. table n (eval d)) g.is ∙ e);
}

-- THE CUT TABLE holds a node for each needed family, and no other
pub table_holds : (n : ℕ) (D : Diagram) (F : Fun) → Fit n 0 D → eval D ≡ F → {C H X : List ℕ} {d r : ℕ} → CutTable D C H X d r → Holds (family_of n C) d (cuts_needed n F)
table_holds n D F fit shows {C = C} {d = d} t = subst (λ G. Holds (family_of n C) d (cuts_needed n G)) shows (record {
  only = λ i l h. cut_node_needed n D fit (den C i) (part_in (families D) (den C i) (t.only.each i l h));
  all = λ Y h.
      let (x, k, e) = needed_cut_node n D fit Y h in
      let g = t.all x (in_part (families D) x k) in
      (g.at, g.low, g.high, ap (λ d. table n (holds n 0 d)) g.is ∙ e);
})
