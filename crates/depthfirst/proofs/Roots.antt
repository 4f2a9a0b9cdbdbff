-- Where no name leads back to itself and there is one root, the root leads to every other name: the walk from it leaves them all.
-- Assumes nothing.
use mathlib.Core.Path.{◌≡◌, sym, subst}
use mathlib.Core.Logic.{◌⊎◌, inl, inr}
use mathlib.Core.List.{List, [], ◌∷◌, ◌++◌}
use Prim.Native.Nat.{ℕ, zero, suc, ◌+◌, ◌<◌, ◌≤◌}
use native.Mathlib.Decide.{dec_lt}
use native.Mathlib.Omega.{arith}
use lib.ListN.{get_or, length, take}
use Rattle.paper.specs.Lists.{In}
use Rattle.paper.specs.Walks.{Leads, Steps, Reaches, OneRoot, Ordered}
use Rattle.depthfirst.specs.Inputs.{inputs_of}
use Rattle.depthfirst.specs.Answers.{InOrder, AllInOrder}
use Rattle.depthfirst.proofs.Lists.{in_place, take_more}

-- one step more, at the end
steps_more : (g : ℕ → List ℕ) (x : ℕ) (l : List ℕ) (w z : ℕ) → Steps g x l w → Leads g w z → Steps g x (l ++ (w ∷ [])) z
steps_more g x [] w z s h = (s, h)
steps_more g x (y ∷ l) w z s h = (s.0, steps_more g y l w z s.1 h)

reaches_more : (g : ℕ → List ℕ) (x w z : ℕ) → (w ≡ x) ⊎ Reaches g x w → Leads g w z → Reaches g x z
reaches_more g x w z (inl e) h = record { via = []; steps = subst (λ v. In z (g v)) e h }
reaches_more g x w z (inr r) h = record { via = r.via ++ (w ∷ []); steps = steps_more g x r.via w z r.steps h }

module _ {g : ℕ → List ℕ} {l : List ℕ} (o : Ordered g l) {n root : ℕ} (all : (z : ℕ) → z < n → In z l) (one : OneRoot g n root) where
  -- a name stands behind its inputs
  behind : (i j : ℕ) → i < length l → j < length l → Leads g (get_or l i 0) (get_or l j 0) → j < i
  behind i j hi hj h = go (dec_lt j i)
    where
      go : Dec (j < i) → j < i
      go (yes k) = k
      go (no k) = absurd (o.once j hj (take_more (get_or l j 0) l i j (omega arith) (o.after i (get_or l j 0) hi h)))

  -- from the last place down
  from_root : (m j : ℕ) → length l ≤ j + m → j < length l → get_or l j 0 < n → (get_or l j 0 ≡ root) ⊎ Reaches g root (get_or l j 0)
  from_root zero j h k q = let b : ⊥ = omega arith in absurd b
  from_root (suc m) j h k q = go (one.others (get_or l j 0) q) (from_root m)
    where
      at_place : (w : ℕ) → w < n → Leads g w (get_or l j 0) → (i : ℕ) × (i < length l) × (get_or l i 0 ≡ w)
          → ((i : ℕ) → length l ≤ i + m → i < length l → get_or l i 0 < n → (get_or l i 0 ≡ root) ⊎ Reaches g root (get_or l i 0)) → Reaches g root (get_or l j 0)
      at_place w b s p r =
          let t : Leads g (get_or l p.0 0) (get_or l j 0) = subst (λ v. In (get_or l j 0) (g v)) (sym p.2) s in
          let c = behind p.0 j p.1 k t in
          reaches_more g root (get_or l p.0 0) (get_or l j 0) (r p.0 (omega arith) p.1 (omega (arith, p.2))) t

      go : (get_or l j 0 ≡ root) ⊎ ((w : ℕ) × (w < n) × In (get_or l j 0) (g w))
          → ((i : ℕ) → length l ≤ i + m → i < length l → get_or l i 0 < n → (get_or l i 0 ≡ root) ⊎ Reaches g root (get_or l i 0))
          → (get_or l j 0 ≡ root) ⊎ Reaches g root (get_or l j 0)
      go (inl e) r = inl e
      go (inr p) r = inr (at_place p.0 p.1 p.2 (in_place p.0 l (all p.0 p.1)) r)

  pub root_reaches : (z : ℕ) → z < n → (z ≡ root) ⊎ Reaches g root z
  root_reaches z b = go (in_place z l (all z b))
    where
      go : (j : ℕ) × (j < length l) × (get_or l j 0 ≡ z) → (z ≡ root) ⊎ Reaches g root z
      go p = subst (λ v. (v ≡ root) ⊎ Reaches g root v) p.2 (from_root (length l) p.0 (omega arith) p.1 (omega (arith, p.2)))

-- ALL NAMES are left by the walk from the one root, where the walks from every name found no ring
pub root_covers : {S I : List ℕ} {n root : ℕ} {Q Q' : List ℕ} {r r' : ℕ} → AllInOrder S I n Q r → OneRoot (inputs_of S I) n root → InOrder S I n root Q' r'
    → (z : ℕ) → z < n → In z (take r' Q')
root_covers {S} {I} {root = root} {Q' = Q'} {r' = r'} a one o z b = go (root_reaches a.ordered a.every one z b)
  where
    go : (z ≡ root) ⊎ Reaches (inputs_of S I) root z → In z (take r' Q')
    go (inl e) = subst (λ v. In v (take r' Q')) (sym e) o.own
    go (inr h) = o.every z h
