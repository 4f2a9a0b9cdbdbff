-- The open names as the work lists have them: stores to the lists, and the ring where an input is open.
-- Assumes nothing.
use mathlib.Core.Path.{◌≡◌, ◌∙◌, ap, refl, sym, subst}
use mathlib.Core.Logic.{inl, inr}
use mathlib.Core.List.{List}
use Prim.Native.Nat.{ℕ, zero, suc, ◌+◌, ◌-◌, ◌<◌, ◌≤◌}
use native.Mathlib.Decide.{dec_lt}
use native.Mathlib.Omega.{arith}
use lib.ListN.{get_or, length, set}
use lib.Seq.{slice, slice-cons, get_or-set_same, get_or-set_other}
use Rattle.paper.specs.Lists.{In}
use Rattle.paper.specs.Walks.{Leads, Steps, Ring}
use Rattle.depthfirst.specs.Inputs.{inputs_of}
use Rattle.depthfirst.specs.Marking.{Stands, Opened}
use Rattle.depthfirst.proofs.Lists.{slice_none}
use Rattle.depthfirst.proofs.Visits.{Frames, none, over, names}
use Rattle.depthfirst.proofs.Standing.{Under, rest_leads}

-- the open names of the work lists
abbrev pub frames : List ℕ → List ℕ → List ℕ → List ℕ → ℕ → Frames
frames S I K A zero = none
frames S I K A (suc d) = over (get_or K d 0) (slice (get_or A d 0) (get_or S (get_or K d 0 + 1) 0) I) (frames S I K A d)

-- ---- open names and stores to the work lists

frames_kept : (S I K A K' A' : List ℕ) (d : ℕ) → ((i : ℕ) → i < d → get_or K' i 0 ≡ get_or K i 0) → ((i : ℕ) → i < d → get_or A' i 0 ≡ get_or A i 0)
    → frames S I K' A' d ≡ frames S I K A d
frames_kept S I K A K' A' zero f h = refl
frames_kept S I K A K' A' (suc d) f h =
    rw (f d (omega arith), h d (omega arith), frames_kept S I K A K' A' d (λ i l. f i (omega arith)) (λ i l. h i (omega arith))) refl

pub frames_placed : (S I K A : List ℕ) (t q : ℕ) → t < length A
    → frames S I K (set A t q) (suc t) ≡ over (get_or K t 0) (slice q (get_or S (get_or K t 0 + 1) 0) I) (frames S I K A t)
frames_placed S I K A t q l =
    rw (get_or-set_same A t q 0 l, frames_kept S I K A K (set A t q) t (λ i h. refl) (λ i h. get_or-set_other A t i q 0 (omega arith))) refl

pub frames_opened : (S I : List ℕ) {M K A : List ℕ} {d y : ℕ} {M' K' A' : List ℕ} → Opened S M K A d y M' K' A' → d < length K → d < length A
    → frames S I K' A' (suc d) ≡ over y (inputs_of S I y) (frames S I K A d)
unfolding inputs_of
frames_opened S I {M} {K} {A} {d} {y} {M'} {K'} {A'} o k a =
    let name : get_or K' d 0 ≡ y = ap (λ (T : List ℕ). get_or T d 0) o.stack ∙ get_or-set_same K d y 0 k in
    let place : get_or A' d 0 ≡ get_or S y 0 = ap (λ (T : List ℕ). get_or T d 0) o.place ∙ get_or-set_same A d (get_or S y 0) 0 a in
    let kept = frames_kept S I K A K' A' d
    (λ i h. ap (λ (T : List ℕ). get_or T i 0) o.stack ∙ get_or-set_other K d i y 0 (omega arith))
    (λ i h. ap (λ (T : List ℕ). get_or T i 0) o.place ∙ get_or-set_other A d i (get_or S y 0) 0 (omega arith)) in
    rw (name, place, kept) refl

-- ---- an open name by its place

pub spot_of : (S I K A : List ℕ) (y d : ℕ) → In y (names (frames S I K A d)) → Stands K d y
spot_of S I K A y zero h = absurd h
spot_of S I K A y (suc d) (inl h) = record { spot = d; low = omega arith; is = sym h }
spot_of S I K A y (suc d) (inr h) = later (spot_of S I K A y d h)
  where
    later : Stands K d y → Stands K (suc d) y
    later s = record { spot = s.spot; low = omega (arith, s.low); is = s.is }

-- ---- each open name is an input of the one below

linked : (S I K A done : List ℕ) (d : ℕ) → Under (inputs_of S I) done (get_or K d 0) (frames S I K A d)
    → (i : ℕ) → i < d → Leads (inputs_of S I) (get_or K i 0) (get_or K (suc i) 0)
linked S I K A done zero u i h = let z : ⊥ = omega arith in absurd z
linked S I K A done (suc d) u i h = go (dec_lt i d) (linked S I K A done d u.2 i)
  where
    go : Dec (i < d) → (i < d → Leads (inputs_of S I) (get_or K i 0) (get_or K (suc i) 0)) → Leads (inputs_of S I) (get_or K i 0) (get_or K (suc i) 0)
    go (yes k) r = r k
    go (no k) r = let e : d ≡ i = omega arith in subst (λ j. Leads (inputs_of S I) (get_or K j 0) (get_or K (suc j) 0)) e (rest_leads u.1 u.0)

module _ (g : ℕ → List ℕ) (K : List ℕ) (t y : ℕ) (link : (i : ℕ) → i < t → Leads g (get_or K i 0) (get_or K (suc i) 0))
    (last : Leads g (get_or K t 0) y) (deep : suc t ≤ length K) where
  steps_of : (m j : ℕ) → j + m ≡ t → Steps g (get_or K j 0) (slice (suc j) (suc t) K) y
  steps_of zero j e =
      let h : t ≡ j = omega arith in
      rw (slice_none (suc j) (suc t) K (omega arith)) (subst (λ i. Leads g (get_or K i 0) y) h last)
  steps_of (suc m) j e = rw (slice-cons (suc j) (suc t) K 0 (omega arith) deep) (link j (omega arith), steps_of m (suc j) (omega arith))

pub ring_of : (S I K A done : List ℕ) (t r y : ℕ) → Under (inputs_of S I) done (get_or K t 0) (frames S I K A t) → Leads (inputs_of S I) (get_or K t 0) y
    → suc t ≤ length K → r < suc t → get_or K r 0 ≡ y → Ring (inputs_of S I) (slice r (suc t) K)
ring_of S I K A done t r y u last deep l e =
    rw (slice-cons r (suc t) K 0 l deep)
    (subst (λ z. Steps (inputs_of S I) (get_or K r 0) (slice (suc r) (suc t) K) z) (sym e)
    (steps_of (inputs_of S I) K t y (linked S I K A done t u) last deep (t - r) r (omega arith)))
