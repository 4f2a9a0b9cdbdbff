-- Members of lists, members before a place, and parts of lists.
-- Assumes nothing.
use mathlib.Core.Path.{◌≡◌, refl, sym, subst}
use mathlib.Core.Logic.{◌⊎◌, inl, inr}
use mathlib.Core.Bool.{Bool, true, false, cond, false≢true}
use mathlib.Core.List.{List, [], ◌∷◌, ◌++◌}
use Prim.Native.Nat.{ℕ, zero, suc, ◌+◌, ◌<◌, ◌≤◌}
use native.Mathlib.Numerals.{add-one}
use native.Mathlib.Omega.{arith}
use borrow.Author.Tests.{eq-eqb, ne_eqb, eqb-true}
use lib.Dec.{eqb}
use lib.ListN.{get_or, length, take, drop, length-take, drop_of_length-le}
use lib.Seq.{slice, slice-cons, take-length}
use Rattle.paper.specs.Lists.{In}
use Rattle.paper.specs.Walks.{has}

-- ---- members

pub in_left : (x : ℕ) (l m : List ℕ) → In x l → In x (l ++ m)
in_left x [] m h = absurd h
in_left x (y ∷ l) m (inl e) = inl e
in_left x (y ∷ l) m (inr h) = inr (in_left x l m h)

pub in_right : (x : ℕ) (l m : List ℕ) → In x m → In x (l ++ m)
in_right x [] m h = h
in_right x (y ∷ l) m h = inr (in_right x l m h)

pub in_append : (x : ℕ) (l m : List ℕ) → In x (l ++ m) → In x l ⊎ In x m
in_append x [] m h = inr h
in_append x (y ∷ l) m (inl e) = inl (inl e)
in_append x (y ∷ l) m (inr h) = go (in_append x l m h)
  where
    go : In x l ⊎ In x m → In x (y ∷ l) ⊎ In x m
    go (inl k) = inl (inr k)
    go (inr k) = inr k

pub in_last : (x : ℕ) (l : List ℕ) → In x (l ++ (x ∷ []))
in_last x l = in_right x l (x ∷ []) (inl refl)

-- a member of a list with one more at its end
pub in_more : (z x : ℕ) (l : List ℕ) → In z (l ++ (x ∷ [])) → In z l ⊎ (z ≡ x)
in_more z x l h = go (in_append z l (x ∷ []) h)
  where
    go : In z l ⊎ In z (x ∷ []) → In z l ⊎ (z ≡ x)
    go (inl k) = inl k
    go (inr (inl e)) = inr e
    go (inr (inr k)) = absurd k

pub in_has : (x : ℕ) (l : List ℕ) → In x l → has x l ≡ true
in_has x [] h = absurd h
in_has x (y ∷ l) (inl e) = rw (eq-eqb x y e) refl
in_has x (y ∷ l) (inr h) = go (eqb x y) (in_has x l h)
  where
    go : (b : Bool) → has x l ≡ true → cond b true (has x l) ≡ true
    go true r = refl
    go false r = r

pub has_in : (x : ℕ) (l : List ℕ) → has x l ≡ true → In x l
has_in x [] h = absurd (false≢true h)
has_in x (y ∷ l) h = go (eqb x y) refl (has_in x l) h
  where
    go : (b : Bool) → eqb x y ≡ b → (has x l ≡ true → In x l) → cond b true (has x l) ≡ true → In x (y ∷ l)
    go true e r q = inl (eqb-true x y e)
    go false e r q = inr (r q)

pub not_has : (x : ℕ) (l : List ℕ) → (In x l → ⊥) → has x l ≡ false
not_has x [] h = refl
not_has x (y ∷ l) h = rw (ne_eqb x y (λ e. h (inl e))) (not_has x l (λ k. h (inr k)))

-- ---- members by their places

pub in_take_place : (y i : ℕ) (l : List ℕ) → In y (take i l) → (j : ℕ) × (j < i) × (j < length l) × (get_or l j 0 ≡ y)
in_take_place y zero l h = absurd h
in_take_place y (suc i) [] h = absurd h
in_take_place y (suc i) (x ∷ l) (inl e) = (zero, omega arith, omega arith, sym e)
in_take_place y (suc i) (x ∷ l) (inr h) = go (in_take_place y i l h)
  where
    go : (j : ℕ) × (j < i) × (j < length l) × (get_or l j 0 ≡ y) → (j : ℕ) × (j < suc i) × (j < suc (length l)) × (get_or (x ∷ l) j 0 ≡ y)
    go p = (suc p.0, omega arith, omega arith, p.3)

pub place_in_take : (l : List ℕ) (j i : ℕ) → j < i → j < length l → In (get_or l j 0) (take i l)
place_in_take [] j i h k = let z : ⊥ = omega arith in absurd z
place_in_take (x ∷ l) j zero h k = let z : ⊥ = omega arith in absurd z
place_in_take (x ∷ l) zero (suc i) h k = inl refl
place_in_take (x ∷ l) (suc j) (suc i) h k = inr (place_in_take l j i (omega arith) (omega arith))

pub take_more : (y : ℕ) (l : List ℕ) (j i : ℕ) → j ≤ i → In y (take j l) → In y (take i l)
take_more y l j i h k = go (in_take_place y j l k)
  where
    go : (m : ℕ) × (m < j) × (m < length l) × (get_or l m 0 ≡ y) → In y (take i l)
    go p = subst (λ z. In z (take i l)) p.3 (place_in_take l p.0 i (omega arith) p.2)

pub take_in : (y : ℕ) (l : List ℕ) (i : ℕ) → In y (take i l) → In y l
take_in y l i k = go (in_take_place y i l k)
  where
    go : (m : ℕ) × (m < i) × (m < length l) × (get_or l m 0 ≡ y) → In y l
    go p = subst (λ z. In z l) p.3 (rw (take-length l) at (place_in_take l p.0 (length l) p.2 p.2))

pub in_place : (y : ℕ) (l : List ℕ) → In y l → (j : ℕ) × (j < length l) × (get_or l j 0 ≡ y)
in_place y [] h = absurd h
in_place y (x ∷ l) (inl e) = (zero, omega arith, sym e)
in_place y (x ∷ l) (inr h) = go (in_place y l h)
  where
    go : (j : ℕ) × (j < length l) × (get_or l j 0 ≡ y) → (j : ℕ) × (j < suc (length l)) × (get_or (x ∷ l) j 0 ≡ y)
    go p = (suc p.0, omega arith, p.2)

pub place_in_lem : (l : List ℕ) (j : ℕ) → j < length l → In (get_or l j 0) l
place_in_lem l j h = take_in (get_or l j 0) l (length l) (place_in_take l j (length l) h h)

-- ---- parts

drop_in : (y k : ℕ) (l : List ℕ) → In y (drop k l) → In y l
drop_in y zero l h = h
drop_in y (suc k) [] h = h
drop_in y (suc k) (x ∷ l) h = inr (drop_in y k l h)

pub slice_in : (y a e : ℕ) (l : List ℕ) → In y (slice a e l) → In y l
slice_in y a e l h = take_in y l e (drop_in y a (take e l) h)

pub slice_none : (q e : ℕ) (l : List ℕ) → e ≤ q → slice q e l ≡ []
slice_none q e l h = let k : length (take e l) ≤ q = simp length-take (omega arith) in drop_of_length-le (take e l) k

pub slice_next : (q e : ℕ) (l : List ℕ) → q < e → e ≤ length l → slice q e l ≡ get_or l q 0 ∷ slice (q + 1) e l
slice_next q e l h k = rw add-one (slice-cons q e l 0 h k)
