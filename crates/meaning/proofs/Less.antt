-- A list of numbers with one member less.
-- Assumes nothing.
use mathlib.Core.Path.{◌≡◌, refl, sym, ◌∙◌, subst}
use mathlib.Core.Logic.{inl, inr}
use mathlib.Core.Bool.{Bool, true, false, cond, true≢false}
use mathlib.Core.List.{List, [], ◌∷◌}
use Prim.Native.Nat.{ℕ}
use borrow.Author.Tests.{eq-eqb, eqb-true}
use lib.Dec.{eqb}
use Rattle.paper.specs.Lists.{In, Once}

-- the list without x where it stands first
abbrev pub without : ℕ → List ℕ → List ℕ
without x [] = []
without x (y ∷ l) = cond (eqb x y) l (y ∷ without x l)

pub in_without : (x z : ℕ) (l : List ℕ) → (z ≡ x → ⊥) → In z l → In z (without x l)
in_without x z [] n h = h
in_without x z (y ∷ l) n h = go (eqb x y) refl h (in_without x z l n)
  where
    go : (t : Bool) → eqb x y ≡ t → In z (y ∷ l) → (In z l → In z (without x l)) → In z (cond t l (y ∷ without x l))
    go true e (inl p) r = absurd (n (p ∙ sym (eqb-true x y e)))
    go true e (inr k) r = k
    go false e (inl p) r = inl p
    go false e (inr k) r = inr (r k)

pub without_in : (x z : ℕ) (l : List ℕ) → In z (without x l) → In z l
without_in x z [] h = h
without_in x z (y ∷ l) h = go (eqb x y) h (without_in x z l)
  where
    go : (t : Bool) → In z (cond t l (y ∷ without x l)) → (In z (without x l) → In z l) → In z (y ∷ l)
    go true k r = inr k
    go false (inl e) r = inl e
    go false (inr k) r = inr (r k)

pub without_once : (x : ℕ) (l : List ℕ) → Once l → Once (without x l)
without_once x [] o = tt
without_once x (y ∷ l) o = go (eqb x y) (without_once x l o.1)
  where
    go : (t : Bool) → Once (without x l) → Once (cond t l (y ∷ without x l))
    go true r = o.1
    go false r = (λ h. o.0 (without_in x y l h), r)

pub without_own : (x : ℕ) (l : List ℕ) → Once l → In x (without x l) → ⊥
without_own x [] o h = h
without_own x (y ∷ l) o h = go (eqb x y) refl h (without_own x l o.1)
  where
    go : (t : Bool) → eqb x y ≡ t → In x (cond t l (y ∷ without x l)) → (In x (without x l) → ⊥) → ⊥
    go true e k r = o.0 (subst (λ z. In z l) (eqb-true x y e) k)
    go false e (inl q) r = true≢false (sym (eq-eqb x y q) ∙ e)
    go false e (inr k) r = r k
