-- Names by their places in a list of names.
-- Assumes nothing.
use mathlib.Core.Path.{◌≡◌, refl, sym, ap, ◌∙◌}
use mathlib.Core.Bool.{Bool, true, false, ◌&&◌, ◌||◌, true≢false, false≢true}
use mathlib.Core.List.{List, [], ◌∷◌, ◌++◌, map}
use Prim.Native.Nat.{ℕ, zero, suc, ◌+◌, ◌<◌, ◌≤◌}
use native.Mathlib.Numerals.{add-one}
use native.Mathlib.Omega.{arith}
use borrow.Author.Tests.{eqb-true, eq-eqb}
use lib.Dec.{eqb}
use lib.ListN.{get_or, length, take, set}
use lib.Seq.{take-suc-set, length-take-le, get_or-take}
use Rattle.paper.specs.Bytes.{same}
use Rattle.paper.specs.Equations.{has, with, number_of}
use Rattle.paper.specs.Spots.{firsts}
use Rattle.lines.specs.Reading.{name_at}
use Rattle.lines.proofs.Parts.{append_none}
use Rattle.names.specs.Interning.{dict_of}

-- ---- the same bytes

pub same_yes : (l m : List ℕ) → same l m ≡ true → l ≡ m
unfolding same
same_yes [] [] h = refl
same_yes [] (b ∷ m) h = absurd (false≢true h)
same_yes (a ∷ l) [] h = absurd (false≢true h)
same_yes (a ∷ l) (b ∷ m) h = go (eqb a b) refl h (same_yes l m)
  where
    go : (t : Bool) → eqb a b ≡ t → (t && same l m) ≡ true → (same l m ≡ true → l ≡ m) → a ∷ l ≡ b ∷ m
    go true e q f = let x = eqb-true a b e in let y = f q in λ j. x j ∷ y j
    go false e q f = absurd (false≢true q)

pub same_self : (l : List ℕ) → same l l ≡ true
unfolding same
same_self [] = refl
same_self (a ∷ l) = rw (eq-eqb a a refl) (same_self l)

pub same_no : (l m : List ℕ) → same l m ≡ false → l ≡ m → ⊥
same_no l m h e = true≢false (sym (same_self l) ∙ ap (same l) e ∙ h)

not_same : (l m : List ℕ) → (l ≡ m → ⊥) → same l m ≡ false
not_same l m h = go (same l m) refl
  where
    go : (t : Bool) → same l m ≡ t → same l m ≡ false
    go true e = absurd (h (same_yes l m e))
    go false e = e

-- ---- places

pub has_not : (w : List ℕ) (D : List (List ℕ)) → ((k : ℕ) → k < length D → get_or D k [] ≡ w → ⊥) → has w D ≡ false
unfolding has
has_not w [] h = refl
has_not w (v ∷ D) h = rw (not_same w v (λ e. h 0 (omega arith) (sym e))) (has_not w D (λ k l. h (suc k) (omega arith)))

pub has_at : (w : List ℕ) (D : List (List ℕ)) (k : ℕ) → k < length D → get_or D k [] ≡ w → has w D ≡ true
unfolding has
has_at w [] k l e = absurd (omega arith)
has_at w (v ∷ D) zero l e = rw (ap (same w) e ∙ same_self w) refl
has_at w (v ∷ D) (suc k) l e = go (same w v) (has_at w D k (omega arith) e)
  where
    go : (t : Bool) → has w D ≡ true → (t || has w D) ≡ true
    go true q = refl
    go false q = q

pub number_at : (w : List ℕ) (D : List (List ℕ)) (k : ℕ) → k < length D → get_or D k [] ≡ w → ((j : ℕ) → j < k → get_or D j [] ≡ w → ⊥) → k ≡ number_of w D
unfolding number_of
number_at w [] k l e n = absurd (omega arith)
number_at w (v ∷ D) zero l e n = rw (ap (same w) e ∙ same_self w) refl
number_at w (v ∷ D) (suc k) l e n = rw (not_same w v (λ q. n 0 (omega arith) (sym q))) (ap suc (number_at w D k (omega arith) e (λ j m. n (suc j) (omega arith))))

-- ---- the names that places hold

length_dict : (f : ℕ → List ℕ) (l : List ℕ) → length (map f l) ≡ length l
length_dict f [] = refl
length_dict f (a ∷ l) = ap suc (length_dict f l)

at_dict : (f : ℕ → List ℕ) (l : List ℕ) (k : ℕ) → k < length l → get_or (map f l) k [] ≡ f (get_or l k 0)
at_dict f [] k h = absurd (omega arith)
at_dict f (a ∷ l) zero h = refl
at_dict f (a ∷ l) (suc k) h = at_dict f l k (omega arith)

map_more : (f : ℕ → List ℕ) (l : List ℕ) (a : ℕ) → map f (l ++ (a ∷ [])) ≡ map f l ++ (f a ∷ [])
map_more f [] a = refl
map_more f (b ∷ l) a = ap (λ m. f b ∷ m) (map_more f l a)

module _ (text N : List ℕ) (c : ℕ) (room : c ≤ length N) where
  pub dict_long : length (dict_of text N c) ≡ c
  unfolding dict_of
  dict_long = length_dict (name_at text) (take c N) ∙ length-take-le c N room

  pub dict_at : (k : ℕ) → k < c → get_or (dict_of text N c) k [] ≡ name_at text (get_or N k 0)
  unfolding dict_of
  dict_at k h = let z = length-take-le c N room in at_dict (name_at text) (take c N) k (omega arith) ∙ ap (name_at text) (get_or-take c N k 0 h)

take_more : (N : List ℕ) (c at : ℕ) → c < length N → take (c + 1) (set N c at) ≡ take c N ++ (at ∷ [])
take_more N c at h = ap (λ k. take k (set N c at)) (add-one c) ∙ take-suc-set N c at h

pub dict_more : (text N : List ℕ) (c at : ℕ) → c < length N → dict_of text (set N c at) (c + 1) ≡ dict_of text N c ++ (name_at text at ∷ [])
unfolding dict_of
dict_more text N c at h = ap (map (name_at text)) (take_more N c at h) ∙ map_more (name_at text) (take c N) at

pub with_old : (D : List (List ℕ)) (w : List ℕ) → has w D ≡ true → with D w ≡ D
unfolding with
with_old D w h = rw h refl

pub with_new : (D : List (List ℕ)) (w : List ℕ) → has w D ≡ false → with D w ≡ D ++ (w ∷ [])
unfolding with
with_new D w h = rw h refl

-- ---- the places of new names

pub spots_old : (D : List (List ℕ)) (w N : List ℕ) (c at : ℕ) → has w D ≡ true → take c N ≡ take c N ++ firsts D (w ∷ []) (at ∷ [])
spots_old D w N c at h = rw h (sym (append_none (take c N)))

pub spots_new : (D : List (List ℕ)) (w N : List ℕ) (c at : ℕ) → c < length N → has w D ≡ false → take (c + 1) (set N c at) ≡ take c N ++ firsts D (w ∷ []) (at ∷ [])
spots_new D w N c at l h = rw h (take_more N c at l)
