-- How many names an order has: all names below n, each once, are n. And an order by members: each once.
-- Assumes nothing.
use mathlib.Core.Path.{◌≡◌, refl, sym, ap, ◌∙◌}
use mathlib.Core.Logic.{◌≢◌, inl, inr}
use mathlib.Core.Bool.{Bool, true, false, cond}
use mathlib.Core.List.{List, [], ◌∷◌}
use Prim.Native.Nat.{ℕ, zero, suc, ◌<◌, ◌≤◌}
use native.Mathlib.Omega.{arith}
use borrow.Author.Tests.{eq-eqb, ne_eqb, eqb-true}
use lib.Dec.{eqb}
use lib.ListN.{get_or, length, take}
use Rattle.paper.specs.Lists.{In, Once}
use Rattle.paper.specs.Walks.{Ordered}
use Rattle.paper.specs.Meaning.{place_in}
use Rattle.depthfirst.specs.Answers.{InTurn}
use Rattle.depthfirst.proofs.Lists.{in_place}

-- ---- a list that has every name below n has at least n names

-- the list without x where it stands first
abbrev less : ℕ → List ℕ → List ℕ
less x [] = []
less x (y ∷ l) = cond (eqb x y) l (y ∷ less x l)

less_length : (x : ℕ) (l : List ℕ) → In x l → length l ≡ suc (length (less x l))
less_length x [] h = absurd h
less_length x (y ∷ l) (inl e) = rw (eq-eqb x y e) refl
less_length x (y ∷ l) (inr h) = go (eqb x y) (less_length x l h)
  where
    go : (b : Bool) → length l ≡ suc (length (less x l)) → suc (length l) ≡ suc (length (cond b l (y ∷ less x l)))
    go true r = refl
    go false r = ap suc r

less_in : (x z : ℕ) (l : List ℕ) → z ≢ x → In z l → In z (less x l)
less_in x z [] d h = h
less_in x z (y ∷ l) d (inl e) = rw (ne_eqb x y (λ q. d (e ∙ sym q))) (inl e)
less_in x z (y ∷ l) d (inr h) = go (eqb x y) (less_in x z l d h)
  where
    go : (b : Bool) → In z (less x l) → In z (cond b l (y ∷ less x l))
    go true r = h
    go false r = inr r

pub all_names_long : (n : ℕ) (l : List ℕ) → ((z : ℕ) → z < n → In z l) → n ≤ length l
all_names_long zero l f = omega arith
all_names_long (suc n) l f =
    let r = all_names_long n (less n l) (λ z h. less_in n z l (omega arith) (f z (omega arith))) in
    let e = less_length n l (f n (omega arith)) in
    omega arith

-- ---- each name once

-- none of the list stands before its own place
abbrev Fresh : List ℕ → Type 0
Fresh l = (i : ℕ) → i < length l → In (get_or l i 0) (take i l) → ⊥

fresh_once : (l : List ℕ) → Fresh l → Once l
fresh_once [] f = tt
fresh_once (x ∷ l) f = (λ h. go (in_place x l h), fresh_once l (λ i k h. f (suc i) (omega arith) (inr h)))
  where
    go : (j : ℕ) × (j < length l) × (get_or l j 0 ≡ x) → ⊥
    go p = f (suc p.0) (omega (arith, p.1)) (inl p.2)

pub ordered_once : {g : ℕ → List ℕ} {l : List ℕ} → Ordered g l → Once l
ordered_once {l = l} o = fresh_once l o.once

-- ---- numbers in turn are places

pub place_low : (x : ℕ) (l : List ℕ) → In x l → place_in x l < length l
unfolding place_in
place_low x [] h = absurd h
place_low x (y ∷ l) (inl e) = rw (eq-eqb x y e) (omega arith)
place_low x (y ∷ l) (inr h) = go (eqb x y) (place_low x l h)
  where
    go : (b : Bool) → place_in x l < length l → cond b 0 (suc (place_in x l)) < suc (length l)
    go true r = omega arith
    go false r = omega arith

pub place_is : (x : ℕ) (l : List ℕ) → In x l → get_or l (place_in x l) 0 ≡ x
unfolding place_in
place_is x [] h = absurd h
place_is x (y ∷ l) (inl e) = rw (eq-eqb x y e) (sym e)
place_is x (y ∷ l) (inr h) = go (eqb x y) refl (place_is x l h)
  where
    go : (b : Bool) → eqb x y ≡ b → get_or l (place_in x l) 0 ≡ x → get_or (y ∷ l) (cond b 0 (suc (place_in x l))) 0 ≡ x
    go true e r = sym (eqb-true x y e)
    go false e r = r

pub in_turn_place : (N l : List ℕ) → InTurn N l → (x : ℕ) → In x l → get_or N x 0 ≡ place_in x l
in_turn_place N l t x h = ap (λ z. get_or N z 0) (sym (place_is x l h)) ∙ t (place_in x l) (place_low x l h)
