-- TWO OUTCOMES COINCIDE: what the contract of `folder` allows for some arguments is one answer, and one content of all that was lent. And what it tells of one tree, and of 19.
-- Assumes nothing.
use mathlib.Core.Path.{◌≡◌, sym, ap, ◌∙◌, subst}
use mathlib.Core.Logic.{◌⊎◌, inl, inr}
use mathlib.Core.List.{List, [], ◌∷◌}
use Prim.Native.Nat.{ℕ, ◌≤◌, ◌<◌}
use native.Mathlib.Omega.{arith}
use lib.ListN.{length, get_or}
use lib.Seq.{ext_get_or, take-length}
use Rattle.paper.specs.Trees.{Tree}
use Rattle.paper.specs.Sizes.{cuts_of_size, sizes}
use Rattle.promises.proofs.Coincide.{same_zero}
use Rattle.store.proofs.Denotes.{below_or_not}
use Rattle.folder.specs.Parts.{parts}
use Rattle.folder.specs.Passing.{Passes, AllPass}
use Rattle.folder.specs.Totals.{Above, Totals}
use Rattle.folder.specs.Contract.{Lends, Answers, Cleared, Leaves, Gathers}
use Rattle.folder.specs.Gathered.{Gathered}
use Rattle.folder.proofs.Passing.{refusal_number, all_same, not_all, first_same}
use Rattle.folder.proofs.Totals.{total_one, above_or_fits}

pub record Same (l₁ l₂ : Lends) (C₁ C₂ : List ℕ) (a₁ a₂ : Gathered) : Type 0 where
  pub number : a₁.number ≡ a₂.number
  pub place : a₁.place ≡ a₂.place
  pub tree : a₁.tree ≡ a₂.tree
  pub lent : l₁ ≡ l₂
  pub counts : C₁ ≡ C₂

-- ---- what was lent

same_cleared : {l l₁ l₂ : Lends} → Cleared l l₁ → Cleared l l₂ → l₁ ≡ l₂
same_cleared x y = λ i. record {
  memory = same_zero y.memory x.memory i;
  less = (x.less ∙ sym y.less) i;
  work = (x.work ∙ sym y.work) i;
  reached = (x.reached ∙ sym y.reached) i;
}

same_left : {i number : ℕ} {l l₁ l₂ : Lends} → Leaves i number l l₁ → Leaves i number l l₂ → l₁ ≡ l₂
same_left (Leaves.unchanged a p) (Leaves.unchanged b q) = p ∙ sym q
same_left (Leaves.unchanged a p) (Leaves.zeroed n c) = absurd (n a)
same_left (Leaves.zeroed n c) (Leaves.unchanged a p) = absurd (n a)
same_left (Leaves.zeroed n c) (Leaves.zeroed o d) = same_cleared c d

same_totals : {ts : List Tree} {C C₁ C₂ : List ℕ} → Totals ts C C₁ → Totals ts C C₂ → C₁ ≡ C₂
same_totals {ts} {C} {C₁} {C₂} x y = ext_get_or 0 C₁ C₂ (x.long ∙ sym y.long) (λ k _. go k (below_or_not k sizes))
  where
    go : (k : ℕ) → (k < sizes) ⊎ (sizes ≤ k) → get_or C₁ k 0 ≡ get_or C₂ k 0
    go k (inl h) = x.totals k h ∙ sym (y.totals k h)
    go k (inr h) = x.behind k h ∙ sym (y.behind k h)

same : {l₁ l₂ : Lends} {C₁ C₂ : List ℕ} {a₁ a₂ : Gathered} {n p i : ℕ} → Answers a₁ n p i → Answers a₂ n p i → l₁ ≡ l₂ → C₁ ≡ C₂ → Same l₁ l₂ C₁ C₂ a₁ a₂
same x y e c = record { number = x.number_is ∙ sym y.number_is; place = x.place_is ∙ sym y.place_is; tree = x.tree_is ∙ sym y.tree_is; lent = e; counts = c }

-- ---- the outcomes

module _ {bytes lengths : List ℕ} {l l₁ l₂ : Lends} {C C₁ C₂ : List ℕ} {a₁ a₂ : Gathered} where
  pub one_folder : Gathers bytes lengths l C l₁ C₁ a₁ → Gathers bytes lengths l C l₂ C₂ a₂ → Same l₁ l₂ C₁ C₂ a₁ a₂
  one_folder (Gathers.misfit n a e c) (Gathers.misfit o b d g) = same a b (e ∙ sym d) (c ∙ sym g)
  one_folder (Gathers.misfit n a e c) (Gathers.refused i v f r b d g) = absurd (n f)
  one_folder (Gathers.misfit n a e c) (Gathers.too_many ts f p o b d g) = absurd (n f)
  one_folder (Gathers.misfit n a e c) (Gathers.done ts f p o b d g) = absurd (n f)
  one_folder (Gathers.refused i v f r a e c) (Gathers.misfit n b d g) = absurd (n f)
  one_folder (Gathers.refused i v f r a e c) (Gathers.refused j w f' s b d g) =
      let (p, q) = first_same r s in
      same (subst (λ x. Answers a₁ x.number x.place j) q (subst (λ x. Answers a₁ v.number v.place x) p a)) b
      (same_left (subst (λ x. Leaves j x.number l l₁) q (subst (λ x. Leaves x v.number l l₁) p e)) d) (c ∙ sym g)
  one_folder (Gathers.refused i v f r a e c) (Gathers.too_many ts f' p o b d g) = absurd (not_all r ts p)
  one_folder (Gathers.refused i v f r a e c) (Gathers.done ts f' p o b d g) = absurd (not_all r ts p)
  one_folder (Gathers.too_many ts f p o a e c) (Gathers.misfit n b d g) = absurd (n f)
  one_folder (Gathers.too_many ts f p o a e c) (Gathers.refused j w f' s b d g) = absurd (not_all s ts p)
  one_folder (Gathers.too_many ts f p o a e c) (Gathers.too_many us f' q u b d g) = same a b (same_cleared e d) (c ∙ sym g)
  one_folder (Gathers.too_many ts f p o a e c) (Gathers.done us f' q u b d g) =
      absurd (above_or_fits (subst Above (all_same l.memory (parts bytes lengths) ts us p q) o) u)
  one_folder (Gathers.done ts f p o a e c) (Gathers.misfit n b d g) = absurd (n f)
  one_folder (Gathers.done ts f p o a e c) (Gathers.refused j w f' s b d g) = absurd (not_all s ts p)
  one_folder (Gathers.done ts f p o a e c) (Gathers.too_many us f' q u b d g) =
      absurd (above_or_fits (subst Above (all_same l.memory (parts bytes lengths) us ts q p) u) o)
  one_folder (Gathers.done ts f p o a e c) (Gathers.done us f' q u b d g) =
      same a b (same_cleared e d) (same_totals (subst (λ x. Totals x C C₁) (all_same l.memory (parts bytes lengths) ts us p q) c) g)

-- ---- what an outcome tells

module _ {bytes lengths : List ℕ} {l l' : Lends} {C C' : List ℕ} {a : Gathered} where
  -- 19 only where every tree passes and a total is too large
  pub nineteen : Gathers bytes lengths l C l' C' a → a.number ≡ 19 → (ts : List Tree) × AllPass l.memory (parts bytes lengths) ts × Above ts
  nineteen (Gathers.misfit n b e c) q = absurd (let k = b.number_is in omega arith)
  nineteen (Gathers.refused i v f r b e c) q = absurd ((refusal_number r.refused).1 (sym b.number_is ∙ q))
  nineteen (Gathers.too_many ts f p o b e c) q = (ts, p, o)
  nineteen (Gathers.done ts f p o b e c) q = absurd (let k = b.number_is in omega arith)

  -- a done folder has the totals of its trees
  pub done_totals : Gathers bytes lengths l C l' C' a → a.number ≡ 0 → (ts : List Tree) × AllPass l.memory (parts bytes lengths) ts × Totals ts C C'
  done_totals (Gathers.misfit n b e c) q = absurd (let k = b.number_is in omega arith)
  done_totals (Gathers.refused i v f r b e c) q = absurd (let (low, high) = refusal_number r.refused in let k = b.number_is in omega arith)
  done_totals (Gathers.too_many ts f p o b e c) q = absurd (let k = b.number_is in omega arith)
  done_totals (Gathers.done ts f p o b e c) q = (ts, p, c)

whole : (bytes : List ℕ) → parts bytes (length bytes ∷ []) ≡ bytes ∷ []
unfolding parts
whole bytes = ap (λ b. b ∷ []) (take-length bytes)

-- ONE TREE'S FOLDER gives the tree's own counts
module _ {bytes : List ℕ} {l l' : Lends} {C C' : List ℕ} {a : Gathered} where
  pub one_tree : Gathers bytes (length bytes ∷ []) l C l' C' a → a.number ≡ 0
      → (t : Tree) × Passes l.memory bytes t × ((k : ℕ) → k < sizes → get_or C' k 0 ≡ cuts_of_size t k)
  one_tree x q = let (ts, p, c) = done_totals x q in go ts (subst (λ bs. AllPass l.memory bs ts) (whole bytes) p) c
    where
      go : (ts : List Tree) → AllPass l.memory (bytes ∷ []) ts → Totals ts C C' → (t : Tree) × Passes l.memory bytes t × ((k : ℕ) → k < sizes → get_or C' k 0 ≡ cuts_of_size t k)
      go [] x c = elim x [ ]
      go (t ∷ (u ∷ ts)) (p, z) c = elim z [ ]
      go (t ∷ []) (p, z) c = (t, p, λ k h. c.totals k h ∙ total_one k t)
