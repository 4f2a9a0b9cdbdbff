-- Numbers that stand once: as many as there are in another list that has them, at most n below n; and the numbers from m on.
-- Assumes nothing.
use mathlib.Core.Path.{◌≡◌, refl}
use mathlib.Core.Logic.{inl, inr}
use mathlib.Core.Bool.{Bool, true, false, cond}
use mathlib.Core.List.{List, [], ◌∷◌}
use Prim.Native.Nat.{ℕ, zero, suc, ◌+◌, ◌<◌, ◌≤◌}
use native.Mathlib.Decide.{ℕ_discrete}
use native.Mathlib.Omega.{arith}
use lib.ListN.{length}
use Rattle.paper.specs.Lists.{In, Once, has, distinct, up_to}
use Rattle.algebra.proofs.Lists.{distinct_le, distinct_once}

-- ---- the k numbers from m on

in_up_to : (k m z : ℕ) → m ≤ z → z < m + k → In z (up_to k m)
in_up_to zero m z h l = let b : ⊥ = omega arith in absurd b
in_up_to (suc k) m z h l = go (ℕ_discrete z m) (in_up_to k (suc m) z)
  where
    go : Dec (z ≡ m) → (suc m ≤ z → z < suc m + k → In z (up_to k (suc m))) → In z (m ∷ up_to k (suc m))
    go (yes e) r = inl e
    go (no q) r = inr (r (omega arith) (omega arith))

of_up_to : (k m z : ℕ) → In z (up_to k m) → (m ≤ z) × (z < m + k)
of_up_to zero m z h = absurd h
of_up_to (suc k) m z (inl e) = (omega arith, omega arith)
of_up_to (suc k) m z (inr h) = let (a, b) = of_up_to k (suc m) z h in (omega arith, omega arith)

pub below_in : (n z : ℕ) → z < n → In z (up_to n 0)
below_in n z h = in_up_to n 0 z (omega arith) (omega arith)

pub below_of : (n z : ℕ) → In z (up_to n 0) → z < n
below_of n z h = let l = (of_up_to n 0 z h).1 in omega arith

pub once_up_to : (k m : ℕ) → Once (up_to k m)
once_up_to zero m = tt
once_up_to (suc k) m = (λ h. let l = (of_up_to k (suc m) m h).0 in omega arith, once_up_to k (suc m))

pub length_up_to : (k m : ℕ) → length (up_to k m) ≡ k
length_up_to zero m = refl
length_up_to (suc k) m = let l = length_up_to k (suc m) in omega arith

-- ---- how many stand once

distinct_short : (l : List ℕ) → distinct ℕ_discrete l ≤ length l
distinct_short [] = omega arith
distinct_short (x ∷ l) = go (has ℕ_discrete x l) (distinct_short l)
  where
    go : (b : Bool) → distinct ℕ_discrete l ≤ length l → cond b (distinct ℕ_discrete l) (suc (distinct ℕ_discrete l)) ≤ suc (length l)
    go true h = omega arith
    go false h = omega arith

pub once_part : (l m : List ℕ) → Once l → ((z : ℕ) → In z l → In z m) → length l ≤ length m
once_part l m o h = omega (arith, distinct_once ℕ_discrete l o, distinct_le ℕ_discrete l m h, distinct_short m)

pub once_few : (n : ℕ) (l : List ℕ) → Once l → ((z : ℕ) → In z l → z < n) → length l ≤ n
once_few n l o h = omega (arith, once_part l (up_to n 0) o (λ z k. below_in n z (h z k)), length_up_to n 0)
