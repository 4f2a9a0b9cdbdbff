-- The look for the root: the inputs of each name are marked, stretch by stretch, and the root is the one name that is not.
-- Assumes nothing.
use mathlib.Core.Path.{◌≡◌, refl, sym, subst}
use mathlib.Core.Logic.{◌≢◌, ◌⊎◌, inl, inr}
use mathlib.Core.List.{List, ◌∷◌}
use Prim.Native.Nat.{ℕ, ◌+◌, ◌<◌, ◌≤◌}
use native.Mathlib.Decide.{dec_lt, ℕ_discrete}
use native.Mathlib.Omega.{arith}
use borrow.Author.Count.{below_more}
use lib.ListN.{get_or, length, set}
use lib.Seq.{slice}
use Rattle.paper.specs.Lists.{In}
use Rattle.paper.specs.Walks.{OneRoot}
use Rattle.depthfirst.specs.Inputs.{inputs_of, Arrays}
use Rattle.depthfirst.specs.Marking.{Clear, Listed, Stretched, InputsMarked, FirstBare}
use Rattle.depthfirst.proofs.Lists.{slice_none, slice_next}
use Rattle.depthfirst.proofs.Marks.{at_set}
use Rattle.depthfirst.proofs.Small.{name_low}

-- ---- one stretch

-- the names at the places p to q are marked
pub record Stretching (I M : List ℕ) (p e q : ℕ) (M' : List ℕ) : Type 0 where
  pub rest : (z : ℕ) → In z (slice q e I) → In z (slice p e I)
  pub old : (z : ℕ) → 1 ≤ get_or M z 0 → 1 ≤ get_or M' z 0
  pub new : (z : ℕ) → In z (slice p e I) → (1 ≤ get_or M' z 0) ⊎ In z (slice q e I)
  pub only : (z : ℕ) → 1 ≤ get_or M' z 0 → (1 ≤ get_or M z 0) ⊎ In z (slice p e I)

pub stretching_start : (I M : List ℕ) (p e : ℕ) → Stretching I M p e p M
stretching_start I M p e = record { rest = λ z h. h; old = λ z h. h; new = λ z h. inr h; only = λ z h. inl h }

module _ {n : ℕ} {I M₀ M : List ℕ} {p e q : ℕ} (l : Listed n I M₀ e) (more : q < e) (same : length M ≡ length M₀)
    (s : Stretching I M₀ p e q M) where
  name_inside : get_or I q 0 < length M
  name_inside = omega (arith, name_low l more, l.long)

  next_name : slice q e I ≡ get_or I q 0 ∷ slice (q + 1) e I
  next_name = slice_next q e I more l.inside

  later : (z : ℕ) → In z (slice (q + 1) e I) → In z (slice q e I)
  later z h = subst (λ k. In z k) (sym next_name) (inr h)

  pub stretching_next : Stretching I M₀ p e (q + 1) (set M (get_or I q 0) 1)
  stretching_next = record {
    rest = λ z h. s.rest z (later z h);
    old = λ z h. marks_kept z (s.old z h);
    new = λ z h. new_of z (s.new z h);
    only = at_set M (get_or I q 0) 1 name_inside (λ z v. 1 ≤ v → (1 ≤ get_or M₀ z 0) ⊎ In z (slice p e I)) (λ h. inr (s.rest (get_or I q 0) (subst (λ k. In (get_or I q 0) k) (sym next_name) (inl refl)))) (λ z k. s.only z);
  }
    where
      marks_kept : (z : ℕ) → 1 ≤ get_or M z 0 → 1 ≤ get_or (set M (get_or I q 0) 1) z 0
      marks_kept = at_set M (get_or I q 0) 1 name_inside (λ z v. 1 ≤ get_or M z 0 → 1 ≤ v) (λ h. omega arith) (λ z k h. h)

      own : (z : ℕ) → z ≡ get_or I q 0 → 1 ≤ get_or (set M (get_or I q 0) 1) z 0
      own = at_set M (get_or I q 0) 1 name_inside (λ z v. z ≡ get_or I q 0 → 1 ≤ v) (λ h. omega arith) (λ z k h. absurd (k h))

      split : (z : ℕ) → In z (get_or I q 0 ∷ slice (q + 1) e I) → (1 ≤ get_or (set M (get_or I q 0) 1) z 0) ⊎ In z (slice (q + 1) e I)
      split z (inl h) = inl (own z h)
      split z (inr h) = inr h

      new_of : (z : ℕ) → (1 ≤ get_or M z 0) ⊎ In z (slice q e I) → (1 ≤ get_or (set M (get_or I q 0) 1) z 0) ⊎ In z (slice (q + 1) e I)
      new_of z (inl h) = inl (marks_kept z h)
      new_of z (inr h) = split z (subst (λ k. In z k) next_name h)

pub stretching_end : {I M M' : List ℕ} {p e q : ℕ} → e ≤ q → Stretching I M p e q M' → Stretched I M p e M'
stretching_end {I} {M} {M'} {p} {e} {q} l s = record { old = s.old; new = λ z h. go z (s.new z h); only = s.only }
  where
    go : (z : ℕ) → (1 ≤ get_or M' z 0) ⊎ In z (slice q e I) → 1 ≤ get_or M' z 0
    go z (inl h) = h
    go z (inr h) = absurd (subst (λ k. In z k) (slice_none q e I l) h)

-- ---- the inputs of every name

pub stretch_listed : {S I M : List ℕ} {n x : ℕ} → Arrays S I n → n ≤ length M → x < n → Listed n I M (get_or S (x + 1) 0)
stretch_listed {x = x} a l h = record { inside = a.inside x h; named = a.named; long = l }

pub inputs_none : (g : ℕ → List ℕ) {n : ℕ} {M : List ℕ} → Clear n M → InputsMarked g n 0 M
inputs_none g c = record {
  every = λ w z h k. let b : ⊥ = omega arith in absurd b;
  only = λ z l h. let e = c.zeros z l in let b : ⊥ = omega arith in absurd b;
}

module _ (S : List ℕ) {I : List ℕ} {n x : ℕ} {M M' : List ℕ} (m : InputsMarked (inputs_of S I) n x M) (s : Stretched I M (get_or S x 0) (get_or S (x + 1) 0) M') where
  pub inputs_next : InputsMarked (inputs_of S I) n (x + 1) M'
  unfolding inputs_of
  inputs_next = record {
    every = λ w z. below_more (λ v. In z (inputs_of S I v) → 1 ≤ get_or M' z 0) x (λ v l h. s.old z (m.every v z l h)) (s.new z) w;
    only = λ z l h. go z l (s.only z h);
  }
    where
      wider : (z : ℕ) → (w : ℕ) × (w < x) × In z (inputs_of S I w) → (w : ℕ) × (w < x + 1) × In z (inputs_of S I w)
      wider z p = (p.0, omega (arith, p.1), p.2)

      go : (z : ℕ) → z < n → (1 ≤ get_or M z 0) ⊎ In z (slice (get_or S x 0) (get_or S (x + 1) 0) I) → (w : ℕ) × (w < x + 1) × In z (inputs_of S I w)
      go z l (inl h) = wider z (m.only z l h)
      go z l (inr h) = (x, omega arith, h)

pub inputs_end : {g : ℕ → List ℕ} {n x : ℕ} {M : List ℕ} → x ≤ n → n ≤ x → InputsMarked g n x M → InputsMarked g n n M
inputs_end {g} {n} {x} {M} l k m = let e : x ≡ n = omega arith in subst (λ y. InputsMarked g n y M) e m

-- ---- the first name that is not marked

-- the names from a up to x are marked
pub record Bearing (n : ℕ) (M : List ℕ) (a x : ℕ) : Type 0 where
  pub from : a ≤ x
  pub low : x ≤ n
  pub marked_before : (z : ℕ) → a ≤ z → z < x → 1 ≤ get_or M z 0

pub bearing_start : {n a : ℕ} (M : List ℕ) → a ≤ n → Bearing n M a a
bearing_start M l = record { from = omega arith; low = l; marked_before = λ z h k. let b : ⊥ = omega arith in absurd b }

module _ {n : ℕ} {M : List ℕ} {a x : ℕ} (more : x < n) (b : Bearing n M a x) where
  pub bearing_next : (get_or M x 0 ≡ 0 → ⊥) → Bearing n M a (x + 1)
  bearing_next h = record {
    from = omega (arith, b.from);
    low = omega arith;
    marked_before = λ z l k. below_more (λ y. a ≤ y → 1 ≤ get_or M y 0) x (λ y q r. b.marked_before y r q) (λ r. omega arith) z k l;
  }

  pub bearing_stop : get_or M x 0 ≡ 0 → (x < n) × FirstBare n M a x
  bearing_stop h = (more, record { from = b.from; low = b.low; marked_before = b.marked_before; bare = λ k. h })

pub bearing_end : {n : ℕ} {M : List ℕ} {a x : ℕ} → n ≤ x → Bearing n M a x → FirstBare n M a n
bearing_end l b = record { from = omega (arith, b.from, b.low); low = omega arith; marked_before = λ z h k. b.marked_before z h (omega arith); bare = λ k. let z : ⊥ = omega arith in absurd z }

-- ---- the root is the one name that is not marked

module _ {g : ℕ → List ℕ} {n : ℕ} {M : List ℕ} (m : InputsMarked g n n M) where
  -- the one root is the only name without a mark
  bare_root : {root : ℕ} → OneRoot g n root → (z : ℕ) → z < n → get_or M z 0 ≡ 0 → z ≡ root
  bare_root {root} o z l e = go (o.others z l)
    where
      go : (z ≡ root) ⊎ ((w : ℕ) × (w < n) × In z (g w)) → z ≡ root
      go (inl h) = h
      go (inr p) = let k = m.every p.0 z p.1 p.2 in let b : ⊥ = omega arith in absurd b

  pub root_none : {a : ℕ} → FirstBare n M 0 a → n ≤ a → (root : ℕ) → OneRoot g n root → ⊥
  root_none f l root o = go (m.only root o.low (f.marked_before root (omega arith) (omega (arith, o.low))))
    where
      go : (w : ℕ) × (w < n) × In root (g w) → ⊥
      go p = o.top p.0 p.1 p.2

  module _ {a b : ℕ} (first : FirstBare n M 0 a) (some : a < n) (second : FirstBare n M (a + 1) b) where
    pub root_two : b < n → (root : ℕ) → OneRoot g n root → ⊥
    root_two l root o = omega (arith, bare_root o a some (first.bare some), bare_root o b l (second.bare l), second.from)

    pub root_one : n ≤ b → OneRoot g n a
    root_one l = record { low = some; top = λ w k h. top_of (m.every w a k h); others = λ z k. others_of z k (ℕ_discrete z a) }
      where
        top_of : 1 ≤ get_or M a 0 → ⊥
        top_of h = let e = first.bare some in omega arith

        marked_of : (z : ℕ) → z < n → z ≢ a → Dec (z < a) → 1 ≤ get_or M z 0
        marked_of z k d (yes h) = first.marked_before z (omega arith) h
        marked_of z k d (no h) = second.marked_before z (omega arith) (omega arith)

        others_of : (z : ℕ) → z < n → Dec (z ≡ a) → (z ≡ a) ⊎ ((w : ℕ) × (w < n) × In z (g w))
        others_of z k (yes h) = inl h
        others_of z k (no h) = inr (m.only z k (marked_of z k h (dec_lt z a)))
