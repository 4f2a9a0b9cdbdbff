-- The order of cuts as lists of members.
-- Assumes nothing.
use mathlib.Core.Path.{◌≡◌, refl, sym, ap₂, ◌∙◌, subst}
use mathlib.Core.Logic.{◌⊎◌, inl, inr}
use mathlib.Core.List.{List, [], ◌∷◌, ◌++◌}
use Prim.Native.Nat.{ℕ, ◌<◌}
use native.Mathlib.Omega.{arith}
use native.Mathlib.Decide.{dec_lt}
use Rattle.paper.specs.Lists.{In}
use Rattle.algebra.proofs.Lists.{in_append, in_right}
use Rattle.sidebyside.specs.Members.{Lt, Leads, Rows}

pub lt_irrefl : (es : List ℕ) → Lt es es → ⊥
lt_irrefl [] h = h
lt_irrefl (e ∷ es) (inl h) = omega arith
lt_irrefl (e ∷ es) (inr h) = lt_irrefl es h.1

pub lt_trans : (a b c : List ℕ) → Lt a b → Lt b c → Lt a c
lt_trans [] b c p q = p
lt_trans (x ∷ a) [] c p q = absurd q
lt_trans (x ∷ a) (y ∷ b) [] p q = tt
lt_trans (x ∷ a) (y ∷ b) (z ∷ c) p q = go p q (λ u v. lt_trans a b c u v)
  where
    go : (x < y) ⊎ ((x ≡ y) × Lt a b) → (y < z) ⊎ ((y ≡ z) × Lt b c) → (Lt a b → Lt b c → Lt a c) → (x < z) ⊎ ((x ≡ z) × Lt a c)
    go (inl u) (inl v) r = inl (omega arith)
    go (inl u) (inr v) r = let e = v.0 in inl (omega arith)
    go (inr u) (inl v) r = let e = u.0 in inl (omega arith)
    go (inr u) (inr v) r = inr (u.0 ∙ v.0, r u.1 v.1)

pub lt_not_eq : (a b : List ℕ) → Lt a b → a ≡ b → ⊥
lt_not_eq a b p e = lt_irrefl b (subst (λ (x : List ℕ). Lt x b) e p)

pub lt_total : (a b : List ℕ) → Lt a b ⊎ ((a ≡ b) ⊎ Lt b a)
lt_total [] [] = inr (inl refl)
lt_total [] (y ∷ b) = inr (inr tt)
lt_total (x ∷ a) [] = inl tt
lt_total (x ∷ a) (y ∷ b) = go (dec_lt x y) (dec_lt y x) (lt_total a b)
  where
    go : Dec (x < y) → Dec (y < x) → Lt a b ⊎ ((a ≡ b) ⊎ Lt b a) → Lt (x ∷ a) (y ∷ b) ⊎ ((x ∷ a ≡ y ∷ b) ⊎ Lt (y ∷ b) (x ∷ a))
    go (yes p) q r = inl (inl p)
    go (no p) (yes q) r = inr (inr (inl q))
    go (no p) (no q) (inl r) = inl (inr (omega arith, r))
    go (no p) (no q) (inr (inl r)) = let e : x ≡ y = omega arith in inr (inl (ap₂ (λ (z : ℕ) (l : List ℕ). z ∷ l) e r))
    go (no p) (no q) (inr (inr r)) = inr (inr (inr (omega arith, r)))

-- the same members in front change nothing
pub lt_front : (ps es fs : List ℕ) → Lt es fs → Lt (ps ++ es) (ps ++ fs)
lt_front [] es fs h = h
lt_front (p ∷ ps) es fs h = inr (refl, lt_front ps es fs h)

pub lt_unfront : (ps es fs : List ℕ) → Lt (ps ++ es) (ps ++ fs) → Lt es fs
lt_unfront [] es fs h = h
lt_unfront (p ∷ ps) es fs (inl h) = absurd (omega arith)
lt_unfront (p ∷ ps) es fs (inr h) = lt_unfront ps es fs h.1

-- ---- rows of cuts

-- before the first, before all
pub leads_first : (p c : List ℕ) (cs : List (List ℕ)) → Lt p c → Leads c cs → Leads p (c ∷ cs)
leads_first p c cs h l d (inl e) = subst (λ (x : List ℕ). Lt p x) (sym e) h
leads_first p c cs h l d (inr k) = lt_trans p c d h (l d k)

-- so it is none of them
pub leads_out : (p : List ℕ) (cs : List (List ℕ)) → Leads p cs → In p cs → ⊥
leads_out p cs l k = lt_irrefl p (l p k)

pub rows_append : (ps cs : List (List ℕ)) → Rows ps → Rows cs → ((p d : List ℕ) → In p ps → In d cs → Lt p d) → Rows (ps ++ cs)
rows_append [] cs r q h = q
rows_append (p ∷ ps) cs r q h = ((λ d k. go d (in_append d ps cs k)), rows_append ps cs r.1 q (λ x d a b. h x d (inr a) b))
  where
    go : (d : List ℕ) → In d ps ⊎ In d cs → Lt p d
    go d (inl k) = r.0 d k
    go d (inr k) = h p d (inl refl) k

pub rows_split : (ps cs : List (List ℕ)) → Rows (ps ++ cs) → Rows cs × ((p d : List ℕ) → In p ps → In d cs → Lt p d)
rows_split [] cs r = (r, λ p d a b. absurd a)
rows_split (x ∷ ps) cs r = let (q, h) = rows_split ps cs r.1 in (q, λ p d a b. go p d a b (h p d))
  where
    go : (p d : List ℕ) → In p (x ∷ ps) → In d cs → (In p ps → In d cs → Lt p d) → Lt p d
    go p d (inl e) b h = subst (λ (z : List ℕ). Lt z d) (sym e) (r.0 d (in_right d ps cs b))
    go p d (inr a) b h = h a b
