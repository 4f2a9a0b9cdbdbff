-- Members of lists, and the number of distinct ones.
-- Assumes nothing.
use mathlib.Core.Path.{◌≡◌, refl, sym, ap, ap₂, ◌∙◌, subst}
use mathlib.Core.Logic.{◌≢◌, ◌⊎◌, inl, inr, ite}
use mathlib.Core.Bool.{Bool, true, false, cond, true≢false, false≢true}
use mathlib.Core.List.{List, [], ◌∷◌, ◌++◌, map, append_assoc, head-eq_of_cons-eq, tail-eq_of_cons-eq}
use Prim.Native.Nat.{suc, ◌-◌, ◌≤◌, suc-le-suc}
use native.Mathlib.Nat.{le_antisymm}
use native.Mathlib.Omega.{arith}
use lib.ListN.{length, get_or}
use Rattle.paper.specs.Lists.{In, keep, flat, has, distinct, Once, last_or}
pub use Rattle.twins.proofs.Kept.{in_keep, keep_in, keep_same, keep_all, keep_none, keep_append, keep_map}

module _ {A : Type 0} where
  pub in_left : (x : A) (xs ys : List A) → In x xs → In x (xs ++ ys)
  in_left x [] ys h = absurd h
  in_left x (y ∷ xs) ys (inl e) = inl e
  in_left x (y ∷ xs) ys (inr h) = inr (in_left x xs ys h)

  pub in_right : (x : A) (xs ys : List A) → In x ys → In x (xs ++ ys)
  in_right x [] ys h = h
  in_right x (y ∷ xs) ys h = inr (in_right x xs ys h)

  pub in_append : (x : A) (xs ys : List A) → In x (xs ++ ys) → In x xs ⊎ In x ys
  in_append x [] ys h = inr h
  in_append x (y ∷ xs) ys (inl e) = inl (inl e)
  in_append x (y ∷ xs) ys (inr h) = go (in_append x xs ys h)
    where
      go : In x xs ⊎ In x ys → In x (y ∷ xs) ⊎ In x ys
      go (inl k) = inl (inr k)
      go (inr k) = inr k

  at_end : (x y : A) (l : List A) → get_or (y ∷ l) (length l) x ≡ last_or y l
  at_end x y [] = refl
  at_end x y (z ∷ l) = at_end x z l

  -- the last member by its place
  pub last_is : (x : A) (l : List A) → get_or l (length l - 1) x ≡ last_or x l
  last_is x [] = refl
  last_is x (y ∷ l) = let q : suc (length l) - 1 ≡ length l = omega arith in ap (λ i. get_or (y ∷ l) i x) q ∙ at_end x y l

pub bool_iff : (a b : Bool) → (a ≡ true → b ≡ true) → (b ≡ true → a ≡ true) → a ≡ b
bool_iff true b f g = sym (f refl)
bool_iff false true f g = g refl
bool_iff false false f g = refl

module _ {A : Type 0} (same : Discrete A) where
  pub in_has : (x : A) (xs : List A) → In x xs → has same x xs ≡ true
  in_has x [] h = absurd h
  in_has x (y ∷ xs) h = go (same x y) (in_has x xs) h
    where
      go : (d : Dec (x ≡ y)) → (In x xs → has same x xs ≡ true) → In x (y ∷ xs) → ite d true (has same x xs) ≡ true
      go (yes e) r h = refl
      go (no n) r (inl e) = absurd (n e)
      go (no n) r (inr h) = r h

  pub has_in : (x : A) (xs : List A) → has same x xs ≡ true → In x xs
  has_in x [] h = absurd (false≢true h)
  has_in x (y ∷ xs) h = go (same x y) (has_in x xs) h
    where
      go : (d : Dec (x ≡ y)) → (has same x xs ≡ true → In x xs) → ite d true (has same x xs) ≡ true → In x (y ∷ xs)
      go (yes e) r h = inl e
      go (no n) r h = inr (r h)

  -- the members other than x
  other : A → A → Bool
  other x y = ite (same x y) false true

  other_self : (x y : A) → x ≡ y → other x y ≡ false
  unfolding other
  other_self x y e = go (same x y)
    where
      go : (d : Dec (x ≡ y)) → ite d false true ≡ false
      go (yes q) = refl
      go (no n) = absurd (n e)

  other_not : (x y : A) → x ≢ y → other x y ≡ true
  unfolding other
  other_not x y h = go (same x y)
    where
      go : (d : Dec (x ≡ y)) → ite d false true ≡ true
      go (yes q) = absurd (h q)
      go (no n) = refl

  has_other : (x y : A) (ys : List A) → x ≢ y → has same y (keep (other x) ys) ≡ has same y ys
  has_other x y ys n = bool_iff (has same y (keep (other x) ys)) (has same y ys)
      (λ h. in_has y ys (keep_in (other x) y ys (has_in y (keep (other x) ys) h)).0)
      (λ h. in_has y (keep (other x) ys) (in_keep (other x) y ys (has_in y ys h) (other_not x y n)))

  -- one member less
  less : (x : A) (ys : List A) → In x ys → distinct same ys ≡ suc (distinct same (keep (other x) ys))
  less x [] h = absurd h
  less x (y ∷ ys) h = go (same x y) (has same y ys) refl (less x ys) h
    where
      Goal : Type 0
      Goal = distinct same (y ∷ ys) ≡ suc (distinct same (keep (other x) (y ∷ ys)))

      go : Dec (x ≡ y) → (b : Bool) → has same y ys ≡ b → (In x ys → distinct same ys ≡ suc (distinct same (keep (other x) ys))) → In x (y ∷ ys) → Goal
      go (yes e) true q r h = rw (q, other_self x y e) (r (subst (λ a. In a ys) (sym e) (has_in y ys q)))
      go (yes e) false q r h = rw (q, other_self x y e) (ap (λ l. suc (distinct same l)) (sym (keep_all (other x) ys
          (λ z k. other_not x z (λ w. true≢false (sym (in_has y ys (subst (λ a. In a ys) (sym w ∙ e) k)) ∙ q))))))
      go (no n) b q r (inl e) = absurd (n e)
      go (no n) true q r (inr h) = rw (q, other_not x y n, has_other x y ys n, q) (r h)
      go (no n) false q r (inr h) = rw (q, other_not x y n, has_other x y ys n, q) (ap suc (r h))

  -- more members, more distinct ones
  pub distinct_le : (xs ys : List A) → ((x : A) → In x xs → In x ys) → distinct same xs ≤ distinct same ys
  distinct_le [] ys h = omega arith
  distinct_le (x ∷ xs) ys h = go (has same x xs) refl (distinct_le xs)
    where
      go : (b : Bool) → has same x xs ≡ b → ((zs : List A) → ((x : A) → In x xs → In x zs) → distinct same xs ≤ distinct same zs) → distinct same (x ∷ xs) ≤ distinct same ys
      go true q r = rw q (r ys (λ y k. h y (inr k)))
      go false q r = rw (q, less x ys (h x (inl refl)))
          (suc-le-suc (r (keep (other x) ys) (λ y k. in_keep (other x) y ys (h y (inr k)) (other_not x y
          (λ w. true≢false (sym (in_has x xs (subst (λ a. In a xs) (sym w) k)) ∙ q))))))

  pub distinct_same : (xs ys : List A) → ((x : A) → In x xs → In x ys) → ((x : A) → In x ys → In x xs) → distinct same xs ≡ distinct same ys
  distinct_same xs ys f g = le_antisymm (distinct_le xs ys f) (distinct_le ys xs g)

module _ {A B : Type 0} (f : A → B) where
  pub in_map : (x : A) (xs : List A) → In x xs → In (f x) (map f xs)
  in_map x [] h = absurd h
  in_map x (y ∷ xs) (inl e) = inl (ap f e)
  in_map x (y ∷ xs) (inr h) = inr (in_map x xs h)

  pub map_in : (y : B) (xs : List A) → In y (map f xs) → (x : A) × In x xs × (y ≡ f x)
  map_in y [] h = absurd h
  map_in y (x ∷ xs) (inl e) = (x, inl refl, e)
  map_in y (x ∷ xs) (inr h) = let (z, k, e) = map_in y xs h in (z, inr k, e)

  pub map_append : (xs ys : List A) → map f (xs ++ ys) ≡ map f xs ++ map f ys
  map_append [] ys = refl
  map_append (x ∷ xs) ys = ap (f x ∷◌) (map_append xs ys)

  pub map_agree : (g : A → B) (x : A) (xs : List A) → map f xs ≡ map g xs → In x xs → f x ≡ g x
  map_agree g x [] e h = absurd h
  map_agree g x (y ∷ xs) e (inl q) = ap f q ∙ head-eq_of_cons-eq e ∙ sym (ap g q)
  map_agree g x (y ∷ xs) e (inr h) = map_agree g x xs (tail-eq_of_cons-eq e) h

  pub map_same : (g : A → B) (xs : List A) → ((x : A) → In x xs → f x ≡ g x) → map f xs ≡ map g xs
  map_same g [] h = refl
  map_same g (x ∷ xs) h = ap₂ ◌∷◌ (h x (inl refl)) (map_same g xs (λ y k. h y (inr k)))

  -- a map that takes no two members to one leaves the number of distinct ones
  pub distinct_map : (same : Discrete A) (same' : Discrete B) (xs : List A)
      → ((x y : A) → In x xs → In y xs → f x ≡ f y → x ≡ y) → distinct same' (map f xs) ≡ distinct same xs
  distinct_map same same' [] h = refl
  distinct_map same same' (x ∷ xs) h = ap₂ (λ b n. cond b n (suc n))
      (bool_iff (has same' (f x) (map f xs)) (has same x xs)
      (λ t. let (y, k, e) = map_in (f x) xs (has_in same' (f x) (map f xs) t) in
      in_has same x xs (subst (λ a. In a xs) (sym (h x y (inl refl) (inr k) e)) k))
      (λ t. in_has same' (f x) (map f xs) (in_map x xs (has_in same x xs t))))
      (distinct_map same same' xs (λ y z k l. h y z (inr k) (inr l)))

module _ {A B : Type 0} (f : A → List B) where
  pub in_flat : (y : B) (x : A) (xs : List A) → In x xs → In y (f x) → In y (flat f xs)
  in_flat y x [] h k = absurd h
  in_flat y x (z ∷ xs) (inl e) k = in_left y (f z) (flat f xs) (subst (λ a. In y (f a)) e k)
  in_flat y x (z ∷ xs) (inr h) k = in_right y (f z) (flat f xs) (in_flat y x xs h k)

  pub flat_in : (y : B) (xs : List A) → In y (flat f xs) → (x : A) × In x xs × In y (f x)
  flat_in y [] h = absurd h
  flat_in y (x ∷ xs) h = go (flat_in y xs) (in_append y (f x) (flat f xs) h)
    where
      go : (In y (flat f xs) → (x : A) × In x xs × In y (f x)) → In y (f x) ⊎ In y (flat f xs) → (z : A) × In z (x ∷ xs) × In y (f z)
      go r (inl k) = (x, inl refl, k)
      go r (inr k) = let (z, l, m) = r k in (z, inr l, m)

-- f of A's lists is g of B's lists, mapped
pub flat_append : {A B : Type 0} (f : A → List B) (xs ys : List A) → flat f (xs ++ ys) ≡ flat f xs ++ flat f ys
flat_append f [] ys = refl
flat_append f (x ∷ xs) ys = ap (f x ++◌) (flat_append f xs ys) ∙ sym (append_assoc (f x) (flat f xs) (flat f ys))

pub map_flat : {A B C D : Type 0} (f : A → List B) (g : C → List D) (h : B → D) (j : A → C) (xs : List A)
    → ((x : A) → In x xs → map h (f x) ≡ g (j x)) → map h (flat f xs) ≡ flat g (map j xs)
map_flat f g h j [] e = refl
map_flat f g h j (x ∷ xs) e = map_append h (f x) (flat f xs) ∙ ap₂ ◌++◌ (e x (inl refl)) (map_flat f g h j xs (λ y k. e y (inr k)))

pub map_map : {A B C : Type 0} (h : B → C) (g : A → B) (xs : List A) → map (λ x. h (g x)) xs ≡ map h (map g xs)
map_map h g [] = refl
map_map h g (x ∷ xs) = ap (h (g x) ∷◌) (map_map h g xs)

-- a list without repeats is as long as it has distinct members
pub distinct_once : {A : Type 0} (same : Discrete A) (xs : List A) → Once xs → distinct same xs ≡ length xs
distinct_once same [] o = refl
distinct_once same (x ∷ xs) o = go (has same x xs) refl (distinct_once same xs o.1)
  where
    go : (b : Bool) → has same x xs ≡ b → distinct same xs ≡ length xs → cond (has same x xs) (distinct same xs) (suc (distinct same xs)) ≡ suc (length xs)
    go true q r = absurd (o.0 (has_in same x xs q))
    go false q r = rw (q, r)
