-- Lists: members, and what a function makes of each of them.
-- Assumes nothing.
use mathlib.Core.Path.{◌≡◌, refl, sym, ap, ◌∙◌}
use mathlib.Core.Logic.{inl, inr}
use mathlib.Core.List.{List, [], ◌∷◌, ◌++◌, map, append_assoc}
use Prim.Native.Nat.{ℕ, zero, suc, ◌<◌}
use native.Mathlib.Omega.{arith}
use lib.ListN.{length, get_or}
use Rattle.paper.specs.Lists.{In, flat}

module _ {A B : Type 0} (f : A → B) where
  pub map_length : (l : List A) → length (map f l) ≡ length l
  map_length [] = refl
  map_length (x ∷ l) = ap suc (map_length l)

  pub map_append : (l m : List A) → map f (l ++ m) ≡ map f l ++ map f m
  map_append [] m = refl
  map_append (x ∷ l) m = ap (λ r. f x ∷ r) (map_append l m)

  pub map_at : (l : List A) (i : ℕ) (z : B) (d : A) → i < length l → get_or (map f l) i z ≡ f (get_or l i d)
  map_at [] i z d h = absurd (omega arith)
  map_at (x ∷ l) zero z d h = refl
  map_at (x ∷ l) (suc i) z d h = map_at l i z d (omega arith)

  pub map_in : (x : A) (l : List A) → In x l → In (f x) (map f l)
  map_in x [] h = absurd h
  map_in x (y ∷ l) (inl e) = inl (ap f e)
  map_in x (y ∷ l) (inr h) = inr (map_in x l h)

module _ {A : Type 0} where
  pub at_in : (l : List A) (i : ℕ) (d : A) → i < length l → In (get_or l i d) l
  at_in [] i d h = absurd (omega arith)
  at_in (x ∷ l) zero d h = inl refl
  at_in (x ∷ l) (suc i) d h = inr (at_in l i d (omega arith))

  pub in_first : (x : A) (l m : List A) → In x l → In x (l ++ m)
  in_first x [] m h = absurd h
  in_first x (y ∷ l) m (inl e) = inl e
  in_first x (y ∷ l) m (inr h) = inr (in_first x l m h)

  pub in_second : (x : A) (l m : List A) → In x m → In x (l ++ m)
  in_second x [] m h = h
  in_second x (y ∷ l) m h = inr (in_second x l m h)

pub flat_append : {A B : Type 0} (f : A → List B) (l m : List A) → flat f (l ++ m) ≡ flat f l ++ flat f m
flat_append f [] m = refl
flat_append f (x ∷ l) m = ap (λ r. f x ++ r) (flat_append f l m) ∙ sym (append_assoc (f x) (flat f l) (flat f m))
