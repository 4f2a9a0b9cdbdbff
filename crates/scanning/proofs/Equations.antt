-- The tests of the definitions on lines: one name in a list of names, a first place or none, a positive number.
-- Assumes nothing.
use mathlib.Core.Path.{◌≡◌, refl, ap}
use mathlib.Core.Bool.{Bool, true, false, ◌||◌, false≢true}
use mathlib.Core.List.{List, [], ◌∷◌}
use Prim.Native.Nat.{ℕ, zero, suc, ◌+◌, ◌<◌, ◌≤◌}
use native.Mathlib.Numerals.{add-one}
use native.Mathlib.Omega.{arith}
use Rattle.paper.specs.Bytes.{same}
use Rattle.paper.specs.Equations.{has, meets, positive}
use Rattle.paper.specs.Importing.{or_else}
use Rattle.names.proofs.Dicts.{same_yes}

pub or_else_more : (a b : ℕ) → or_else (a + 1) b ≡ suc a
or_else_more a b = ap (λ k. or_else k b) (add-one a)

pub or_else_some : (a b c : ℕ) → positive a ≡ true → or_else a b ≡ or_else a c
or_else_some zero b c h = absurd (false≢true h)
or_else_some (suc a) b c h = refl

pub positive_more : (a : ℕ) → positive (a + 1) ≡ true
positive_more a = ap positive (add-one a)

pub positive_not : (a : ℕ) → (a ≡ 0 → ⊥) → positive a ≡ true
positive_not zero h = absurd (h refl)
positive_not (suc a) h = refl

pub has_one : (w x : List ℕ) → has w (x ∷ []) ≡ same w x
unfolding has
has_one w x = go (same w x)
  where
    go : (t : Bool) → (t || false) ≡ t
    go true = refl
    go false = refl

pub has_front : (w x : List ℕ) (D : List (List ℕ)) → has w (x ∷ D) ≡ (same w x || has w D)
unfolding has
has_front w x D = refl

pub meets_one : (x : List ℕ) (ys : List (List ℕ)) → meets (x ∷ []) ys ≡ has x ys
meets_one x ys = go (has x ys)
  where
    go : (t : Bool) → (t || false) ≡ t
    go true = refl
    go false = refl

pub has_none : (w : List ℕ) → has w [] ≡ false
unfolding has
has_none w = refl

pub different : (w x : List ℕ) → (w ≡ x → ⊥) → same w x ≡ false
different w x h = go (same w x) refl
  where
    go : (t : Bool) → same w x ≡ t → same w x ≡ false
    go true e = absurd (h (same_yes w x e))
    go false e = e

pub or_else_none : (a : ℕ) → or_else a 0 ≡ a
or_else_none zero = refl
or_else_none (suc a) = refl

pub not_positive : (a : ℕ) → a ≤ 0 → positive a ≡ false
not_positive zero h = refl
not_positive (suc a) h = absurd (omega arith)

pub is_positive : (a : ℕ) → 0 < a → positive a ≡ true
is_positive a h = positive_not a (λ e. omega arith)
