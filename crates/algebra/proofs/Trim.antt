-- The part of a set in a range of events.
-- Assumes nothing.
use mathlib.Core.Path.{◌≡◌, refl, ◌∙◌}
use mathlib.Core.Logic.{◌⊎◌, inl, inr}
use mathlib.Core.Bool.{Bool, true, false}
use mathlib.Core.List.{map}
use Prim.Native.Nat.{ℕ, zero, suc, ◌+◌, ◌≤◌, ◌<◌}
use native.Mathlib.Omega.{arith}
use lib.Dec.{eqb}
use borrow.Author.Tests.{eqb-false}
use Rattle.paper.specs.Lists.{In}
use Rattle.paper.specs.Sets.{Set, none, put, all_sets}
use Rattle.algebra.proofs.Base.{put_same, put_other, eqb_or}
use Rattle.algebra.proofs.Lists.{in_left, in_right, in_map}

-- the part of v in the k events from m on
abbrev pub trim : ℕ → ℕ → Set → Set
trim zero m v = none
trim (suc k) m v = put m (v m) (trim k (suc m) v)

pub trim_all : (k m : ℕ) (v : Set) → In (trim k m v) (all_sets k m)
trim_all zero m v = inl refl
trim_all (suc k) m v = go (v m) (trim_all k (suc m) v)
  where
    go : (b : Bool) → In (trim k (suc m) v) (all_sets k (suc m)) → In (put m b (trim k (suc m) v)) (all_sets (suc k) m)
    go true h = in_left (put m true (trim k (suc m) v)) (map (put m true) (all_sets k (suc m))) (map (put m false) (all_sets k (suc m))) (in_map (put m true) (trim k (suc m) v) (all_sets k (suc m)) h)
    go false h = in_right (put m false (trim k (suc m) v)) (map (put m true) (all_sets k (suc m))) (map (put m false) (all_sets k (suc m))) (in_map (put m false) (trim k (suc m) v) (all_sets k (suc m)) h)

pub trim_at : (k m : ℕ) (v : Set) (i : ℕ) → m ≤ i → i < m + k → trim k m v i ≡ v i
trim_at zero m v i h l = absurd (omega arith)
trim_at (suc k) m v i h l = go (eqb_or i m) (trim_at k (suc m) v i)
  where
    go : (i ≡ m) ⊎ (eqb i m ≡ false) → (suc m ≤ i → i < suc m + k → trim k (suc m) v i ≡ v i) → put m (v m) (trim k (suc m) v) i ≡ v i
    go (inl e) r = rw e (put_same m (v m) (trim k (suc m) v))
    go (inr e) r = put_other m (v m) (trim k (suc m) v) i (eqb-false i m e) ∙ r (omega (arith, eqb-false i m e)) (omega arith)

-- outside the range there is nothing
pub trim_below : (k m : ℕ) (v : Set) (i : ℕ) → i < m → trim k m v i ≡ false
trim_below zero m v i l = refl
trim_below (suc k) m v i l = put_other m (v m) (trim k (suc m) v) i (λ q. omega arith) ∙ trim_below k (suc m) v i (omega arith)

pub trim_above : (k m : ℕ) (v : Set) (i : ℕ) → m + k ≤ i → trim k m v i ≡ false
trim_above zero m v i l = refl
trim_above (suc k) m v i l = put_other m (v m) (trim k (suc m) v) i (λ q. omega arith) ∙ trim_above k (suc m) v i (omega arith)
