-- The number of stored nodes and the number of nodes needed: equal where all that is wanted is stored, and short where a full table lacks one.
-- Assumes nothing.
use mathlib.Core.Path.{◌≡◌, sym, ap, ◌∙◌, subst}
use mathlib.Core.Logic.{inl, inr}
use mathlib.Core.List.{List, ◌∷◌}
use Prim.Native.Nat.{ℕ, ◌+◌, ◌-◌, ◌/◌, ◌<◌}
use native.Mathlib.Omega.{arith}
use lib.ListN.{length}
use Rattle.paper.specs.Lists.{In, keep, flat}
use Rattle.paper.specs.Diagrams.{Diagram, Diagram-discrete}
use Rattle.algebra.specs.Operations.{subs, is_node, node_count}
use Rattle.algebra.proofs.Lists.{in_flat, flat_in, in_keep, keep_in, distinct_once, distinct_le, distinct_same}
use Rattle.tables.specs.Table.{den}
use Rattle.tables.proofs.Once.{dens, dens_length, in_dens, dens_in, dens_once}
use Rattle.store.specs.Store.{Store}
use Rattle.store.specs.Building.{PartOf, Found, Lacks, Only}
use Rattle.store.proofs.Denotes.{found_whole}

pub part_in : {ds : List Diagram} {E : Diagram} → PartOf ds E → In E (keep is_node (flat subs ds))
part_in {ds} {E} p = in_keep is_node E (flat subs ds) (in_flat subs E p.whole ds p.member p.part.inside) p.part.node

pub in_part : {ds : List Diagram} {E : Diagram} → In E (keep is_node (flat subs ds)) → PartOf ds E
in_part {ds} {E} h =
    let (a, t) = keep_in is_node E (flat subs ds) h in
    let (d, k, l) = flat_in subs E ds a in
    record { whole = d; member = k; part = record { inside = l; node = t } }

-- ---- the stored diagrams, each once

module _ {T H X : List ℕ} {c : ℕ} (s : Store T H X c) where
  module _ (ds : List Diagram) (only : Only (PartOf ds) T c) where
    belongs : (x : Diagram) → In x (dens T c) → In x (keep is_node (flat subs ds))
    belongs x h =
        let (j, a, b, e) = dens_in T c 0 x h in
        subst (λ y. In y (keep is_node (flat subs ds))) (sym e) (part_in (only.each (j + 2) (omega arith) (omega arith)))

    -- all that is stored is wanted, and all that is wanted is stored
    pub nodes_done : ((d : Diagram) → In d ds → (r : ℕ) × Found T c d r) → c ≡ node_count ds
    unfolding node_count
    nodes_done f =
        sym (dens_length T c 0) ∙ sym (distinct_once Diagram-discrete (dens T c) (dens_once s.lower s.unique c 0 (omega arith)))
        ∙ distinct_same Diagram-discrete (dens T c) (keep is_node (flat subs ds)) belongs back
      where
        back : (x : Diagram) → In x (keep is_node (flat subs ds)) → In x (dens T c)
        back x h =
            let p = in_part {ds = ds} {E = x} h in
            let (r, found) = f p.whole p.member in
            let w = found_whole s.lower found x p.part in
            let z : w.at - 2 + 2 ≡ w.at = omega (arith, w.low) in
            subst (λ y. In y (dens T c)) (ap (den T) z ∙ w.is) (in_dens T c 0 (w.at - 2) (omega arith) (omega (arith, w.low, w.high)))

    -- all that is stored is wanted, and a wanted node is not stored
    pub nodes_lack : {x : Diagram} → PartOf ds x → ((i : ℕ) → i < c + 2 → den T i ≡ x → ⊥) → c < node_count ds
    unfolding node_count
    nodes_lack {x} p n =
        let e = distinct_once Diagram-discrete (x ∷ dens T c) (fresh, dens_once s.lower s.unique c 0 (omega arith)) in
        let l = distinct_le Diagram-discrete (x ∷ dens T c) (keep is_node (flat subs ds)) all in
        let k = dens_length T c 0 in
        omega arith
      where
        fresh : In x (dens T c) → ⊥
        fresh h = let (j, a, b, e) = dens_in T c 0 x h in n (j + 2) (omega arith) (sym e)

        all : (y : Diagram) → In y (x ∷ dens T c) → In y (keep is_node (flat subs ds))
        all y (inl e) = subst (λ y. In y (keep is_node (flat subs ds))) (sym e) (part_in p)
        all y (inr h) = belongs y h

    pub nodes_full : Lacks (PartOf ds) T c → length T / 3 < node_count ds
    nodes_full l = subst (λ k. k < node_count ds) l.full (nodes_lack l.wanted l.absent)
