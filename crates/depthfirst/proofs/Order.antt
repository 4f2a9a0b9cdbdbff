-- An order that has each name once and behind its inputs: one name more, and no ring among its names.
-- Assumes nothing.
use mathlib.Core.Path.{◌≡◌, sym, subst}
use mathlib.Core.Logic.{◌⊎◌, inl, inr}
use mathlib.Core.List.{List, [], ◌∷◌, ◌++◌}
use Prim.Native.Nat.{ℕ, ◌+◌, ◌<◌, ◌≤◌}
use native.Mathlib.Decide.{dec_lt}
use native.Mathlib.Omega.{arith}
use lib.ListN.{get_or, length, take, length-append, get_or-append}
use lib.Seq.{take-append-le, take-append_seam, get_or-append_seam}
use Rattle.paper.specs.Lists.{In}
use Rattle.paper.specs.Walks.{Steps, Reaches, Ring, Ordered}
use Rattle.depthfirst.proofs.Lists.{in_take_place, take_more, take_in, in_place}

pub ordered_none : (g : ℕ → List ℕ) → Ordered g []
ordered_none g = record { once = λ i l h. let z : ⊥ = omega arith in z; after = λ i y l h. let z : ⊥ = omega arith in absurd z }

-- ---- one name more

module _ (l : List ℕ) (x : ℕ) where
  old_or_new : (i : ℕ) → i < length (l ++ (x ∷ [])) → (i < length l) ⊎ (i ≡ length l)
  old_or_new i h = go (dec_lt i (length l)) (rw length-append at h)
    where
      go : Dec (i < length l) → i < length l + 1 → (i < length l) ⊎ (i ≡ length l)
      go (yes k) b = inl k
      go (no k) b = inr (omega arith)

  module _ (P : ℕ → List ℕ → Type 0) where
    old_at : (i : ℕ) → i < length l → P (get_or l i 0) (take i l) → P (get_or (l ++ (x ∷ [])) i 0) (take i (l ++ (x ∷ [])))
    old_at i h p = let k : i ≤ length l = omega arith in rw (get_or-append l (x ∷ []) 0 i h, take-append-le i l (x ∷ []) k) p

    new_at : (i : ℕ) → i ≡ length l → P x l → P (get_or (l ++ (x ∷ [])) i 0) (take i (l ++ (x ∷ [])))
    new_at i e p = rw (e, get_or-append_seam l x [] 0, take-append_seam l (x ∷ [])) p

    each_at : ((i : ℕ) → i < length l → P (get_or l i 0) (take i l)) → P x l
        → (i : ℕ) → i < length (l ++ (x ∷ [])) → P (get_or (l ++ (x ∷ [])) i 0) (take i (l ++ (x ∷ [])))
    each_at f p i h = go (old_or_new i h)
      where
        go : (i < length l) ⊎ (i ≡ length l) → P (get_or (l ++ (x ∷ [])) i 0) (take i (l ++ (x ∷ [])))
        go (inl k) = old_at i k (f i k)
        go (inr e) = new_at i e p

pub ordered_more : {g : ℕ → List ℕ} {l : List ℕ} (x : ℕ) → Ordered g l → (In x l → ⊥) → ((y : ℕ) → In y (g x) → In y l) → Ordered g (l ++ (x ∷ []))
ordered_more {g} {l} x o fresh ready = record {
  once = each_at l x (λ z before. In z before → ⊥) o.once fresh;
  after = λ i y. each_at l x (λ z before. In y (g z) → In y before) (λ j. o.after j y) (ready y) i;
}

-- ---- no ring

module _ {g : ℕ → List ℕ} {l : List ℕ} (o : Ordered g l) where
  -- steps lead to earlier places
  falls : (via : List ℕ) (i z : ℕ) → i < length l → Steps g (get_or l i 0) via z → In z (take i l)
  falls [] i z h s = o.after i z h s
  falls (y ∷ via) i z h s = go (in_take_place y i l (o.after i y h s.0)) (falls via)
    where
      go : (j : ℕ) × (j < i) × (j < length l) × (get_or l j 0 ≡ y) → ((j w : ℕ) → j < length l → Steps g (get_or l j 0) via w → In w (take j l)) → In z (take i l)
      go p r = take_more z l p.0 i (omega arith) (r p.0 z p.2 (subst (λ w. Steps g w via z) (sym p.3) s.1))

  pub ordered_reaches : (x z : ℕ) → In x l → Reaches g x z → In z l
  ordered_reaches x z h r = go (in_place x l h)
    where
      go : (j : ℕ) × (j < length l) × (get_or l j 0 ≡ x) → In z l
      go p = take_in z l p.0 (falls r.via p.0 z p.1 (subst (λ w. Steps g w r.via z) (sym p.2) r.steps))

  pub ordered_ringless : (x : ℕ) → In x l → Reaches g x x → ⊥
  ordered_ringless x h r = go (in_place x l h)
    where
      go : (j : ℕ) × (j < length l) × (get_or l j 0 ≡ x) → ⊥
      go p = o.once p.0 p.1
          (subst (λ w. In w (take p.0 l)) (sym p.2) (falls r.via p.0 x p.1 (subst (λ w. Steps g w r.via x) (sym p.2) r.steps)))

-- a ring's first name leads back to itself
pub ring_reaches : (g : ℕ → List ℕ) (x : ℕ) (l : List ℕ) → Ring g (x ∷ l) → Reaches g x x
ring_reaches g x l s = record { via = l; steps = s }
