-- Each once, at its first place: what is left in, what is not, and the same through a map.
-- Assumes nothing.
use mathlib.Core.Path.{◌≡◌, refl, sym, ap, ◌∙◌}
use mathlib.Core.Logic.{inl, inr}
use mathlib.Core.Bool.{Bool, true, false, cond, not, ◌||◌}
use mathlib.Core.List.{List, [], ◌∷◌, ◌++◌, map}
use Prim.Native.Nat.{ℕ, zero, suc, ◌≤◌, ◌<◌, suc-le-suc}
use native.Mathlib.Omega.{arith}
use lib.ListN.{length, get_or}
use Rattle.paper.specs.Lists.{In}
use Rattle.paper.specs.Twins.{others, firsts}
use Rattle.twins.specs.Distinct.{stands_in}
use Rattle.twins.proofs.Kept.{in_keep, keep_in, keep_same, keep_append, keep_length, keep_places, keep_map}

module _ {A : Type 0} (same : A → A → Bool) where
  pub firsts_length : (xs : List A) → length (firsts same xs) ≤ length xs
  firsts_length [] = omega arith
  firsts_length (x ∷ xs) = let q = firsts_length xs in let r = keep_length (λ y. not (same x y)) (firsts same xs) in omega arith

  pub firsts_some : (xs : List A) → 1 ≤ length xs → 1 ≤ length (firsts same xs)
  firsts_some [] h = h
  firsts_some (x ∷ xs) h = omega arith

  -- none is new
  pub firsts_in : (x : A) (xs : List A) → In x (firsts same xs) → In x xs
  firsts_in x [] h = h
  firsts_in x (y ∷ xs) (inl e) = inl e
  firsts_in x (y ∷ xs) (inr h) = inr (firsts_in x xs (keep_in (λ z. not (same y z)) x (firsts same xs) h).0)

  pub firsts_all : (P : A → Type 0) (xs : List A) → ((x : A) → In x xs → P x) → (x : A) → In x (firsts same xs) → P x
  firsts_all P xs h x k = h x (firsts_in x xs k)

  pub firsts_places : (P : A → Type 0) (d : A) (xs : List A) → ((j : ℕ) → j < length xs → P (get_or xs j d)) → (j : ℕ) → j < length (firsts same xs) → P (get_or (firsts same xs) j d)
  firsts_places P d [] h j l = h j l
  firsts_places P d (x ∷ xs) h zero l = h zero (omega arith)
  firsts_places P d (x ∷ xs) h (suc j) l =
      keep_places (λ y. not (same x y)) P d (firsts same xs) (firsts_places P d xs (λ i k. h (suc i) (suc-le-suc k))) j (omega arith)

  -- none is lost, where only equals are the same
  pub in_firsts : ((a b : A) → same a b ≡ true → a ≡ b) → (x : A) (xs : List A) → In x xs → In x (firsts same xs)
  in_firsts eq x [] h = h
  in_firsts eq x (y ∷ xs) (inl e) = inl e
  in_firsts eq x (y ∷ xs) (inr h) = go (same y x) refl (in_firsts eq x xs h)
    where
      go : (b : Bool) → same y x ≡ b → In x (firsts same xs) → In x (firsts same (y ∷ xs))
      go true q k = inl (sym (eq y x q))
      go false q k = inr (in_keep (λ z. not (same y z)) x (firsts same xs) k (ap not q))

  -- one more at the end is left out where it stands already
  pub firsts_end : (xs : List A) (y : A) → firsts same (xs ++ (y ∷ [])) ≡ cond (stands_in same y xs) (firsts same xs) (firsts same xs ++ (y ∷ []))
  firsts_end [] y = refl
  firsts_end (x ∷ xs) y = ap (λ l. x ∷ others same x l) (firsts_end xs y) ∙ go (same x y) refl (stands_in same y xs)
    where
      go : (a : Bool) → same x y ≡ a → (b : Bool)
          → x ∷ others same x (cond b (firsts same xs) (firsts same xs ++ (y ∷ []))) ≡ cond (same x y || b) (firsts same (x ∷ xs)) (firsts same (x ∷ xs) ++ (y ∷ []))
      go true q true = rw q
      go true q false = rw (q, keep_append (λ z. not (same x z)) (firsts same xs) (y ∷ []), q) (ap (x ∷◌) (append_none (others same x (firsts same xs))))
        where
          append_none : (l : List A) → l ++ [] ≡ l
          append_none [] = refl
          append_none (a ∷ l) = ap (a ∷◌) (append_none l)
      go false q true = rw q
      go false q false = rw (q, keep_append (λ z. not (same x z)) (firsts same xs) (y ∷ []), q)

-- WHAT A TWIN CHANGES NOTHING OF has one value over each once, and over all
module _ {A B : Type 0} (same : A → A → Bool) (is : (a b : A) → same a b ≡ true → a ≡ b) (op : A → B → B)
    (twice : (a : A) (r : B) → op a (op a r) ≡ op a r) (swap : (a b : A) (r : B) → op a (op b r) ≡ op b (op a r))
    (S : List A → B) (step : (x : A) (xs : List A) → S (x ∷ xs) ≡ op x (S xs)) where
  over_others : (x : A) (ys : List A) → op x (S (others same x ys)) ≡ op x (S ys)
  over_others x [] = refl
  over_others x (y ∷ ys) = go (same x y) refl (over_others x ys)
    where
      go : (b : Bool) → same x y ≡ b → op x (S (others same x ys)) ≡ op x (S ys) → op x (S (others same x (y ∷ ys))) ≡ op x (S (y ∷ ys))
      go true q r = rw (q, step y ys, ← is x y q, twice x (S ys)) r
      go false q r = rw (q, step y ys, step y (others same x ys)) (swap x y (S (others same x ys)) ∙ ap (op y) r ∙ swap y x (S ys))

  pub firsts_fold : (xs : List A) → S (firsts same xs) ≡ S xs
  firsts_fold [] = refl
  firsts_fold (x ∷ xs) = step x (others same x (firsts same xs)) ∙ over_others x (firsts same xs) ∙ ap (op x) (firsts_fold xs) ∙ sym (step x xs)

-- a map under which the same stay the same, and others others
pub firsts_map : {A B : Type 0} (sameA : A → A → Bool) (sameB : B → B → Bool) (f : A → B) (xs : List A)
    → ((a b : A) → In a xs → In b xs → sameB (f a) (f b) ≡ sameA a b) → firsts sameB (map f xs) ≡ map f (firsts sameA xs)
firsts_map sameA sameB f [] h = refl
firsts_map sameA sameB f (x ∷ xs) h =
    ap (λ l. f x ∷ others sameB (f x) l) (firsts_map sameA sameB f xs (λ a b k l. h a b (inr k) (inr l)))
    ∙ ap (f x ∷◌) (keep_map f (λ y. not (sameB (f x) y)) (firsts sameA xs)
    ∙ ap (map f) (keep_same (λ a. not (sameB (f x) (f a))) (λ a. not (sameA x a)) (firsts sameA xs) (λ a k. ap not (h x a (inl refl) (inr (firsts_in sameA a xs k))))))
