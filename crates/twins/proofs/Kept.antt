-- The members of a list that pass a test.
-- Assumes nothing.
use mathlib.Core.Path.{◌≡◌, refl, sym, ap, ap₂, ◌∙◌}
use mathlib.Core.Logic.{inl, inr}
use mathlib.Core.Bool.{Bool, true, false, cond}
use mathlib.Core.List.{List, [], ◌∷◌, ◌++◌, map}
use Prim.Native.Nat.{ℕ, zero, suc, ◌≤◌, ◌<◌, suc-le-suc}
use native.Mathlib.Omega.{arith}
use lib.ListN.{length, get_or}
use Rattle.paper.specs.Lists.{In, keep}

module _ {A : Type 0} where
  pub in_keep : (t : A → Bool) (x : A) (xs : List A) → In x xs → t x ≡ true → In x (keep t xs)
  in_keep t x [] k h = absurd k
  in_keep t x (y ∷ xs) (inl e) h = rw (ap t (sym e) ∙ h) (inl e)
  in_keep t x (y ∷ xs) (inr k) h = go (t y) (in_keep t x xs k h)
    where
      go : (b : Bool) → In x (keep t xs) → In x (cond b (y ∷ keep t xs) (keep t xs))
      go true r = inr r
      go false r = r

  pub keep_in : (t : A → Bool) (x : A) (xs : List A) → In x (keep t xs) → In x xs × (t x ≡ true)
  keep_in t x [] k = absurd k
  keep_in t x (y ∷ xs) k = go (t y) refl (keep_in t x xs) k
    where
      go : (b : Bool) → t y ≡ b → (In x (keep t xs) → In x xs × (t x ≡ true)) → In x (cond b (y ∷ keep t xs) (keep t xs)) → In x (y ∷ xs) × (t x ≡ true)
      go true q r (inl e) = (inl e, ap t e ∙ q)
      go true q r (inr h) = (inr (r h).0, (r h).1)
      go false q r h = (inr (r h).0, (r h).1)

  -- a test that all members pass or that passes for the same members
  pub keep_same : (t u : A → Bool) (xs : List A) → ((x : A) → In x xs → t x ≡ u x) → keep t xs ≡ keep u xs
  keep_same t u [] h = refl
  keep_same t u (x ∷ xs) h = ap₂ (λ b r. cond b (x ∷ r) r) (h x (inl refl)) (keep_same t u xs (λ y k. h y (inr k)))

  pub keep_all : (t : A → Bool) (xs : List A) → ((x : A) → In x xs → t x ≡ true) → keep t xs ≡ xs
  keep_all t [] h = refl
  keep_all t (x ∷ xs) h = rw (h x (inl refl)) (ap (x ∷◌) (keep_all t xs (λ y k. h y (inr k))))

module _ {A : Type 0} (t : A → Bool) where
  pub keep_none : (xs : List A) → ((x : A) → In x xs → t x ≡ false) → keep t xs ≡ []
  keep_none [] h = refl
  keep_none (x ∷ xs) h = rw (h x (inl refl)) (keep_none xs (λ y k. h y (inr k)))

  pub keep_append : (xs ys : List A) → keep t (xs ++ ys) ≡ keep t xs ++ keep t ys
  keep_append [] ys = refl
  keep_append (x ∷ xs) ys = go (t x) (keep_append xs ys)
    where
      go : (b : Bool) → keep t (xs ++ ys) ≡ keep t xs ++ keep t ys
          → cond b (x ∷ keep t (xs ++ ys)) (keep t (xs ++ ys)) ≡ cond b (x ∷ keep t xs) (keep t xs) ++ keep t ys
      go true r = ap (x ∷◌) r
      go false r = r

  pub keep_length : (xs : List A) → length (keep t xs) ≤ length xs
  keep_length [] = omega arith
  keep_length (x ∷ xs) = go (t x) (keep_length xs)
    where
      go : (b : Bool) → length (keep t xs) ≤ length xs → length (cond b (x ∷ keep t xs) (keep t xs)) ≤ length (x ∷ xs)
      go true r = omega arith
      go false r = omega arith

  -- what holds at every place holds at every place of what is kept
  pub keep_places : (P : A → Type 0) (d : A) (xs : List A) → ((j : ℕ) → j < length xs → P (get_or xs j d)) → (j : ℕ) → j < length (keep t xs) → P (get_or (keep t xs) j d)
  keep_places P d [] h = h
  keep_places P d (x ∷ xs) h = go (t x) (keep_places P d xs (λ j l. h (suc j) (suc-le-suc l)))
    where
      go : (b : Bool) → ((j : ℕ) → j < length (keep t xs) → P (get_or (keep t xs) j d)) → (j : ℕ) → j < length (cond b (x ∷ keep t xs) (keep t xs)) → P (get_or (cond b (x ∷ keep t xs) (keep t xs)) j d)
      go true r zero l = h zero (omega arith)
      go true r (suc j) l = r j (omega arith)
      go false r j l = r j l

module _ {A B : Type 0} (f : A → B) where
  pub keep_map : (t : B → Bool) (xs : List A) → keep t (map f xs) ≡ map f (keep (λ x. t (f x)) xs)
  keep_map t [] = refl
  keep_map t (x ∷ xs) = go (t (f x)) (keep_map t xs)
    where
      go : (b : Bool) → keep t (map f xs) ≡ map f (keep (λ x. t (f x)) xs)
          → cond b (f x ∷ keep t (map f xs)) (keep t (map f xs)) ≡ map f (cond b (x ∷ keep (λ x. t (f x)) xs) (keep (λ x. t (f x)) xs))
      go true r = ap (f x ∷◌) r
      go false r = r
