-- Events and gates are numbered in the order of the names, each kind from 0 on.
-- Assumes nothing.
use mathlib.Core.Path.{◌≡◌, refl, sym, ap, ◌∙◌, subst}
use mathlib.Core.Logic.{◌≢◌, inl, inr}
use mathlib.Core.Bool.{Bool, true, false, cond}
use mathlib.Core.List.{List, [], ◌∷◌, ◌++◌}
use Prim.Native.Nat.{ℕ, suc, ◌+◌, ◌<◌, ◌≤◌}
use native.Mathlib.Numerals.{add-one}
use native.Mathlib.Omega.{arith}
use borrow.Author.Count.{below_more}
use lib.ListN.{get_or, length, take, set, length-append, get_or-append}
use lib.Seq.{slice, take-suc, length-take-le, get_or-take, take-take, get_or-append_seam, get_or-set_same, get_or-set_other}
use Rattle.paper.specs.Lists.{In}
use Rattle.paper.specs.Walks.{is_event, events_of, gates_of}
use Rattle.depthfirst.specs.Inputs.{inputs_of}
use Rattle.depthfirst.specs.Answers.{Numberable, InTurn, Numbers}
use Rattle.depthfirst.proofs.Lists.{place_in_lem, slice_none, slice_next}
use Rattle.depthfirst.proofs.Meeting.{events_event, events_gate, gates_event, gates_gate}

events_in : (g : ℕ → List ℕ) (y : ℕ) (l : List ℕ) → In y (events_of g l) → In y l
events_in g y [] h = h
events_in g y (x ∷ l) h = go (is_event (g x)) (events_in g y l) h
  where
    go : (b : Bool) → (In y (events_of g l) → In y l) → In y (cond b (x ∷ events_of g l) (events_of g l)) → In y (x ∷ l)
    go true r (inl e) = inl e
    go true r (inr k) = inr (r k)
    go false r k = inr (r k)

gates_in : (g : ℕ → List ℕ) (y : ℕ) (l : List ℕ) → In y (gates_of g l) → In y l
gates_in g y [] h = h
gates_in g y (x ∷ l) h = go (is_event (g x)) (gates_in g y l) h
  where
    go : (b : Bool) → (In y (gates_of g l) → In y l) → In y (cond b (gates_of g l) (x ∷ gates_of g l)) → In y (x ∷ l)
    go true r k = inr (r k)
    go false r (inl e) = inl e
    go false r (inr k) = inr (r k)

-- ---- a number is given to a name that is not among l, and it may follow l

module _ (l N : List ℕ) (x : ℕ) (fresh : In x l → ⊥) (t : InTurn N l) where
  turn_kept : (v : ℕ) → InTurn (set N x v) l
  turn_kept v i h =
      let k : get_or l i 0 ≢ x = λ e. fresh (subst (λ z. In z l) e (place_in_lem l i h)) in
      get_or-set_other N x (get_or l i 0) v 0 k ∙ t i h

  turn_more : x < length N → (v : ℕ) → v ≡ length l → InTurn (set N x v) (l ++ (x ∷ []))
  turn_more inside v e i q =
      below_more (λ k. get_or (set N x v) (get_or (l ++ (x ∷ [])) k 0) 0 ≡ k) (length l)
      (λ k h. ap (λ z. get_or (set N x v) z 0) (get_or-append l (x ∷ []) 0 k h) ∙ turn_kept v k h)
      (ap (λ z. get_or (set N x v) z 0) (get_or-append_seam l x [] 0) ∙ get_or-set_same N x v 0 inside ∙ e)
      i (rw (length-append l (x ∷ [])) at q)

pub numbers_none : (g : ℕ → List ℕ) (N : List ℕ) → Numbers g [] N 0 0
numbers_none g N = record {
  events = refl;
  gates = refl;
  event_turn = λ i h. let z : ⊥ = omega arith in absurd z;
  gate_turn = λ i h. let z : ⊥ = omega arith in absurd z;
}

-- every name is an event or a gate
kinds_sum : (g : ℕ → List ℕ) (l : List ℕ) → length (events_of g l) + length (gates_of g l) ≡ length l
kinds_sum g [] = refl
kinds_sum g (x ∷ l) = go (is_event (g x)) (kinds_sum g l)
  where
    go : (b : Bool) → length (events_of g l) + length (gates_of g l) ≡ length l
        → length (cond b (x ∷ events_of g l) (events_of g l)) + length (cond b (gates_of g l) (x ∷ gates_of g l)) ≡ suc (length l)
    go true r = omega arith
    go false r = omega arith

module _ {g : ℕ → List ℕ} {l N : List ℕ} {e h : ℕ} (x : ℕ) (w : Numbers g l N e h) (fresh : In x l → ⊥) (inside : x < length N) where
  numbers_event : g x ≡ [] → Numbers g (l ++ (x ∷ [])) (set N x e) (e + 1) h
  numbers_event q = record {
    events = rw (events_event g x l q) (omega (arith, length-append (events_of g l) (x ∷ []), w.events));
    gates = rw (gates_event g x l q) w.gates;
    event_turn = rw (events_event g x l q) (turn_more (events_of g l) N x (λ k. fresh (events_in g x l k)) w.event_turn inside e w.events);
    gate_turn = rw (gates_event g x l q) (turn_kept (gates_of g l) N x (λ k. fresh (gates_in g x l k)) w.gate_turn e);
  }

  numbers_gate : (y : ℕ) (o : List ℕ) → g x ≡ y ∷ o → Numbers g (l ++ (x ∷ [])) (set N x h) e (h + 1)
  numbers_gate y o q = record {
    events = rw (events_gate g x y o l q) w.events;
    gates = rw (gates_gate g x y o l q) (omega (arith, length-append (gates_of g l) (x ∷ []), w.gates));
    event_turn = rw (events_gate g x y o l q) (turn_kept (events_of g l) N x (λ k. fresh (events_in g x l k)) w.event_turn h);
    gate_turn = rw (gates_gate g x y o l q) (turn_more (gates_of g l) N x (λ k. fresh (gates_in g x l k)) w.gate_turn inside h w.gates);
  }

-- ---- a turn of the loop, at place i of the order

module _ {S I : List ℕ} {n : ℕ} {Q : List ℕ} {left : ℕ} {N₀ : List ℕ} {i x : ℕ}
    (a : Numberable S I n Q left N₀) (more : i < left) (ex : x ≡ get_or Q i 0) where
  name_is : get_or (take left Q) i 0 ≡ x
  name_is = get_or-take left Q i 0 more ∙ sym ex

  place_here : i < length (take left Q)
  place_here = omega (arith, length-take-le left Q a.inside)

  pub number_low : x < n
  number_low = a.low x (subst (λ z. In z (take left Q)) name_is (place_in_lem (take left Q) i place_here))

  name_fresh : In x (take i Q) → ⊥
  name_fresh h =
      let k : i ≤ left = omega arith in
      a.ordered.once i place_here (subst (λ z. In z (take i (take left Q))) (sym name_is) (subst (λ m. In x m) (sym (take-take i left Q k)) h))

  one_longer : take (i + 1) Q ≡ take i Q ++ (x ∷ [])
  one_longer =
      let k : i < length Q = omega (arith, a.inside) in
      ap (λ j. take j Q) (add-one i) ∙ take-suc Q i 0 k ∙ ap (λ z. take i Q ++ (z ∷ [])) (sym ex)

  module _ {N : List ℕ} {e h : ℕ} (same : length N ≡ length N₀) (w : Numbers (inputs_of S I) (take i Q) N e h) where
    pub number_few : e + h ≡ i
    number_few =
        let k : i ≤ length Q = omega (arith, a.inside) in
        omega (arith, w.events, w.gates, kinds_sum (inputs_of S I) (take i Q), length-take-le i Q k)

    wide_enough : x < length N
    wide_enough = omega (arith, number_low, a.long)

    pub number_event : get_or S (x + 1) 0 ≤ get_or S x 0 → Numbers (inputs_of S I) (take (i + 1) Q) (set N x e) (e + 1) h
    unfolding inputs_of
    number_event k = rw one_longer (numbers_event x w name_fresh wide_enough (slice_none (get_or S x 0) (get_or S (x + 1) 0) I k))

    pub number_gate : get_or S x 0 < get_or S (x + 1) 0 → Numbers (inputs_of S I) (take (i + 1) Q) (set N x h) e (h + 1)
    unfolding inputs_of
    number_gate k =
        rw one_longer (numbers_gate x w name_fresh wide_enough (get_or I (get_or S x 0) 0) (slice (get_or S x 0 + 1) (get_or S (x + 1) 0) I)
        (slice_next (get_or S x 0) (get_or S (x + 1) 0) I k (a.arrays.inside x number_low)))

pub numbers_end : {g : ℕ → List ℕ} (Q : List ℕ) {N : List ℕ} {i left e h : ℕ} → i ≤ left → left ≤ i → Numbers g (take i Q) N e h → Numbers g (take left Q) N e h
numbers_end {g} Q {N} {i} {left} {e} {h} l m w = let q : i ≡ left = omega arith in subst (λ k. Numbers g (take k Q) N e h) q w
