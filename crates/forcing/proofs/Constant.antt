-- A CONSTANT: no cut node is needed, the family is none or the empty set alone, and no event matters.
-- Assumes nothing.
use mathlib.Core.Path.{◌≡◌, refl, sym, ◌∙◌}
use mathlib.Core.Bool.{Bool, cond}
use mathlib.Core.List.{[], ◌∷◌}
use Prim.Native.Nat.{ℕ, zero, suc}
use native.Mathlib.Omega.{arith}
use Rattle.paper.specs.Sets.{none}
use Rattle.paper.specs.Functions.{depends_on}
use Rattle.paper.specs.Trees.{const_f}
use Rattle.paper.specs.Diagrams.{leaf}
use Rattle.paper.specs.Cuts.{cut_nodes_needed, cut_list}
use Rattle.paper.specs.Chance.{standing}
use Rattle.algebra.specs.Operations.{node_count}
use Rattle.algebra.proofs.Without.{Fit}
use Rattle.algebra.proofs.Promises.{cut_nodes_lem, lists_all, events_standing}

module _ (n : ℕ) (b : Bool) where
  leaf_fits : Fit n 0 (leaf b)
  leaf_fits = record { ordered = tt; reduced = tt; mono = λ T S p t. t }

  pub constant_cut_nodes : cut_nodes_needed n (const_f b) ≡ 0
  unfolding node_count
  constant_cut_nodes = sym (cut_nodes_lem n (leaf b) (const_f b) leaf_fits refl)

  pub constant_cuts : cut_list n (const_f b) ≡ cond b (none ∷ []) []
  constant_cuts = sym (lists_all n (leaf b) (const_f b) leaf_fits refl)

  pub constant_depends : depends_on n (const_f b) ≡ 0
  constant_depends = sym (events_standing n (leaf b) (const_f b) leaf_fits refl) ∙ go n 0
    where
      go : (k m : ℕ) → standing k m (leaf b) ≡ 0
      go zero m = refl
      go (suc k) m = omega (arith, go k (suc m))
