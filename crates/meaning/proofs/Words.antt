-- Names as words: the same bytes, names in a list without repeats, and their numbers.
-- Assumes nothing.
use mathlib.Core.Path.{◌≡◌, refl, sym, ap, ap₂, ◌∙◌, subst}
use mathlib.Core.Logic.{◌⊎◌, inl, inr}
use mathlib.Core.Bool.{Bool, true, false, cond, ◌&&◌, ◌||◌, true≢false, false≢true}
use mathlib.Core.List.{List, [], ◌∷◌, ◌++◌}
use Prim.Native.Nat.{ℕ, zero, suc, ◌<◌}
use native.Mathlib.Omega.{arith}
use borrow.Author.Tests.{eq-eqb, ne_eqb, eqb-true}
use lib.Dec.{eqb}
use lib.ListN.{get_or, length}
use Rattle.paper.specs.Lists.{In, Once}
use Rattle.paper.specs.Bytes.{same}
use Rattle.paper.specs.Texts.{Placed}
use Rattle.paper.specs.Equations.{has, with, number_of, collect, names_in, dict_in, name_in}
use Rattle.paper.specs.Meaning.{place_in}
use Rattle.algebra.proofs.Lists.{in_left, in_right, in_append}

-- ---- the same bytes

pub same_refl : (w : List ℕ) → same w w ≡ true
unfolding same
same_refl [] = refl
same_refl (a ∷ w) = rw (eq-eqb a a refl) (same_refl w)

pub same_eq : (w v : List ℕ) → same w v ≡ true → w ≡ v
unfolding same
same_eq [] [] h = refl
same_eq [] (b ∷ v) h = absurd (false≢true h)
same_eq (a ∷ w) [] h = absurd (false≢true h)
same_eq (a ∷ w) (b ∷ v) h = go (eqb a b) refl h (same_eq w v)
  where
    go : (t : Bool) → eqb a b ≡ t → (t && same w v) ≡ true → (same w v ≡ true → w ≡ v) → ◌≡◌ {A = List ℕ} (a ∷ w) (b ∷ v)
    go true e q r = ap₂ ◌∷◌ (eqb-true a b e) (r q)
    go false e q r = absurd (false≢true q)

pub not_same : (w v : List ℕ) → (w ≡ v → ⊥) → same w v ≡ false
not_same w v h = go (same w v) refl
  where
    go : (t : Bool) → same w v ≡ t → same w v ≡ false
    go true e = absurd (h (same_eq w v e))
    go false e = e

pub has_in : (w : List ℕ) (D : List (List ℕ)) → has w D ≡ true → In w D
unfolding has
has_in w [] h = absurd (false≢true h)
has_in w (v ∷ D) h = go (same w v) refl h (has_in w D)
  where
    go : (t : Bool) → same w v ≡ t → (t || has w D) ≡ true → (has w D ≡ true → In w D) → In w (v ∷ D)
    go true e q r = inl (same_eq w v e)
    go false e q r = inr (r q)

pub in_has : (w : List ℕ) (D : List (List ℕ)) → In w D → has w D ≡ true
unfolding has
in_has w [] h = absurd h
in_has w (v ∷ D) (inl e) = rw (ap (same w) (sym e) ∙ same_refl w) refl
in_has w (v ∷ D) (inr h) = go (same w v) (in_has w D h)
  where
    go : (t : Bool) → has w D ≡ true → (t || has w D) ≡ true
    go true r = refl
    go false r = r

pub not_has : (w : List ℕ) (D : List (List ℕ)) → (In w D → ⊥) → has w D ≡ false
not_has w D h = go (has w D) refl
  where
    go : (t : Bool) → has w D ≡ t → has w D ≡ false
    go true e = absurd (h (has_in w D e))
    go false e = e

-- ---- the member at a place

pub at_in : {A : Type 0} (d : A) (l : List A) (i : ℕ) → i < length l → In (get_or l i d) l
at_in d [] i h = let b : ⊥ = omega arith in absurd b
at_in d (y ∷ l) zero h = inl refl
at_in d (y ∷ l) (suc i) h = inr (at_in d l i (omega arith))

-- ---- the number of a name

pub number_low : (w : List ℕ) (D : List (List ℕ)) → In w D → number_of w D < length D
unfolding number_of
number_low w [] h = absurd h
number_low w (v ∷ D) h = go (same w v) refl h (number_low w D)
  where
    go : (t : Bool) → same w v ≡ t → In w (v ∷ D) → (In w D → number_of w D < length D) → cond t 0 (suc (number_of w D)) < suc (length D)
    go true e q r = omega arith
    go false e (inl p) r = absurd (true≢false (sym (ap (same w) (sym p) ∙ same_refl w) ∙ e))
    go false e (inr q) r = let l = r q in omega arith

pub number_name : (w : List ℕ) (D : List (List ℕ)) → In w D → get_or D (number_of w D) [] ≡ w
unfolding number_of
number_name w [] h = absurd h
number_name w (v ∷ D) h = go (same w v) refl h (number_name w D)
  where
    go : (t : Bool) → same w v ≡ t → In w (v ∷ D) → (In w D → get_or D (number_of w D) [] ≡ w) → get_or (v ∷ D) (cond t 0 (suc (number_of w D))) [] ≡ w
    go true e q r = sym (same_eq w v e)
    go false e (inl p) r = absurd (true≢false (sym (ap (same w) (sym p) ∙ same_refl w) ∙ e))
    go false e (inr q) r = r q

pub name_number : (D : List (List ℕ)) (i : ℕ) → Once D → i < length D → number_of (get_or D i []) D ≡ i
unfolding number_of
name_number [] i o h = let b : ⊥ = omega arith in absurd b
name_number (v ∷ D) zero o h = rw (same_refl v) refl
name_number (v ∷ D) (suc i) o h =
    rw (not_same (get_or D i []) v (λ e. o.0 (subst (λ w. In w D) e (at_in [] D i (omega arith))))) (ap suc (name_number D i o.1 (omega arith)))

-- ---- the place of a number in a list

pub name_place : (l : List ℕ) (i : ℕ) → Once l → i < length l → place_in (get_or l i 0) l ≡ i
unfolding place_in
name_place [] i o h = let b : ⊥ = omega arith in absurd b
name_place (y ∷ l) zero o h = rw (eq-eqb y y refl) refl
name_place (y ∷ l) (suc i) o h =
    rw (ne_eqb (get_or l i 0) y (λ e. o.0 (subst (λ w. In w l) e (at_in 0 l i (omega arith))))) (ap suc (name_place l i o.1 (omega arith)))

pub place_front : (x : ℕ) (l m : List ℕ) → In x l → place_in x (l ++ m) ≡ place_in x l
unfolding place_in
place_front x [] m h = absurd h
place_front x (y ∷ l) m h = go (eqb x y) refl h (place_front x l m)
  where
    go : (t : Bool) → eqb x y ≡ t → In x (y ∷ l) → (In x l → place_in x (l ++ m) ≡ place_in x l) → cond t 0 (suc (place_in x (l ++ m))) ≡ cond t 0 (suc (place_in x l))
    go true e q r = refl
    go false e (inl p) r = absurd (true≢false (sym (eq-eqb x y p) ∙ e))
    go false e (inr q) r = ap suc (r q)

-- ---- the names of a text

in_with : (v w : List ℕ) (D : List (List ℕ)) → In v D ⊎ (v ≡ w) → In v (with D w)
unfolding with
in_with v w D h = go (has w D) refl h
  where
    go : (t : Bool) → has w D ≡ t → In v D ⊎ (v ≡ w) → In v (cond t D (D ++ (w ∷ [])))
    go true e (inl k) = k
    go true e (inr q) = subst (λ z. In z D) (sym q) (has_in w D e)
    go false e (inl k) = in_left v D (w ∷ []) k
    go false e (inr q) = in_right v D (w ∷ []) (inl q)

with_in : (v w : List ℕ) (D : List (List ℕ)) → In v (with D w) → In v D ⊎ (v ≡ w)
unfolding with
with_in v w D h = go (has w D) h
  where
    last : In v D ⊎ In v (w ∷ []) → In v D ⊎ (v ≡ w)
    last (inl k) = inl k
    last (inr (inl e)) = inr e
    last (inr (inr k)) = absurd k

    go : (t : Bool) → In v (cond t D (D ++ (w ∷ []))) → In v D ⊎ (v ≡ w)
    go true k = inl k
    go false k = last (in_append v D (w ∷ []) k)

pub once_end : {A : Type 0} (w : A) (D : List A) → Once D → (In w D → ⊥) → Once (D ++ (w ∷ []))
once_end w [] o h = (λ k. k, tt)
once_end w (v ∷ D) o h = (λ k. not (in_append v D (w ∷ []) k), once_end w D o.1 (λ k. h (inr k)))
  where
    not : In v D ⊎ In v (w ∷ []) → ⊥
    not (inl k) = o.0 k
    not (inr (inl e)) = h (inl (sym e))
    not (inr (inr k)) = k

once_with : (w : List ℕ) (D : List (List ℕ)) → Once D → Once (with D w)
unfolding with
once_with w D o = go (has w D) refl
  where
    go : (t : Bool) → has w D ≡ t → Once (cond t D (D ++ (w ∷ [])))
    go true e = o
    go false e = once_end w D o (λ h. true≢false (sym (in_has w D h) ∙ e))

in_collect : (v : List ℕ) (D ws : List (List ℕ)) → In v D ⊎ In v ws → In v (collect D ws)
in_collect v D [] (inl h) = h
in_collect v D [] (inr h) = absurd h
in_collect v D (w ∷ ws) h = in_collect v (with D w) ws (go h)
  where
    go : In v D ⊎ In v (w ∷ ws) → In v (with D w) ⊎ In v ws
    go (inl k) = inl (in_with v w D (inl k))
    go (inr (inl e)) = inl (in_with v w D (inr e))
    go (inr (inr k)) = inr k

collect_in : (v : List ℕ) (D ws : List (List ℕ)) → In v (collect D ws) → In v D ⊎ In v ws
collect_in v D [] h = inl h
collect_in v D (w ∷ ws) h = go (collect_in v (with D w) ws h)
  where
    old : In v D ⊎ (v ≡ w) → In v D ⊎ In v (w ∷ ws)
    old (inl k) = inl k
    old (inr e) = inr (inl e)

    go : In v (with D w) ⊎ In v ws → In v D ⊎ In v (w ∷ ws)
    go (inl k) = old (with_in v w D k)
    go (inr k) = inr (inr k)

once_collect : (D ws : List (List ℕ)) → Once D → Once (collect D ws)
once_collect D [] o = o
once_collect D (w ∷ ws) o = once_collect (with D w) ws (once_with w D o)

pub dict_once : (ls : List Placed) → Once (dict_in ls)
unfolding dict_in
dict_once ls = once_collect [] (names_in ls) tt

pub in_dict : (w : List ℕ) (ls : List Placed) → In w (names_in ls) → In w (dict_in ls)
unfolding dict_in
in_dict w ls h = in_collect w [] (names_in ls) (inr h)

pub dict_in_lem : (w : List ℕ) (ls : List Placed) → In w (dict_in ls) → In w (names_in ls)
unfolding dict_in
dict_in_lem w ls h = go (collect_in w [] (names_in ls) h)
  where
    go : In w [] ⊎ In w (names_in ls) → In w (names_in ls)
    go (inl k) = absurd k
    go (inr k) = k

-- a name's number is its own, and the name of a number too
pub name_of_number : (w : List ℕ) (ls : List Placed) → In w (names_in ls) → name_in ls (number_of w (dict_in ls)) ≡ w
name_of_number w ls h = number_name w (dict_in ls) (in_dict w ls h)

pub number_of_name : (ls : List Placed) (x : ℕ) → x < length (dict_in ls) → number_of (name_in ls x) (dict_in ls) ≡ x
number_of_name ls x h = name_number (dict_in ls) x (dict_once ls) h
