-- The events and the gates of an order that is taken name by name.
-- Assumes nothing.
use mathlib.Core.Path.{◌≡◌, refl, sym, ap, ◌∙◌, subst}
use mathlib.Core.Logic.{inl, inr}
use mathlib.Core.Bool.{Bool, true, false, cond}
use mathlib.Core.List.{List, [], ◌∷◌, ◌++◌, map}
use Prim.Native.Nat.{ℕ, ◌+◌, ◌-◌, ◌<◌, ◌≤◌}
use native.Mathlib.Numerals.{add-one}
use native.Mathlib.Omega.{arith}
use lib.Dec.{leb}
use lib.ListN.{length, get_or, take, drop, take-append-drop, length-append, get_or-append}
use lib.Seq.{length-slice, take-suc, take-take, get_or-take, length-take-le}
use borrow.Author.Tests.{leb-true, leb-false}
use Rattle.paper.specs.Lists.{In}
use Rattle.paper.specs.Walks.{is_event, events_of, gates_of}
use Rattle.rules.proofs.Cases.{either}
use Rattle.records.proofs.Lists.{map_append}
use Rattle.depthfirst.specs.Inputs.{inputs_of, Arrays}
use Rattle.depthfirst.specs.Answers.{InTurn}
use Rattle.depthfirst.proofs.Lists.{place_in_lem, in_place, slice_none, slice_next}
use Rattle.planting.specs.Orders.{gate_at, chances_among, gates_among}

-- ---- the next name of an order

module _ (Q : List ℕ) where
  pub one_more : {i x : ℕ} → i < length Q → x ≡ get_or Q i 0 → take (i + 1) Q ≡ take i Q ++ (x ∷ [])
  one_more {i} {x} h e = ap (λ j. take j Q) (add-one i) ∙ take-suc Q i 0 h ∙ ap (λ z. take i Q ++ (z ∷ [])) (sym e)

  pub the_rest : {i left : ℕ} → i ≤ left → take left Q ≡ take i Q ++ drop i (take left Q)
  the_rest {i} {left} h = sym (take-append-drop i (take left Q)) ∙ ap (λ m. m ++ drop i (take left Q)) (take-take i left Q h)

  pub name_in : {i left x : ℕ} → i < left → left ≤ length Q → x ≡ get_or Q i 0 → In x (take left Q)
  name_in {i} {left} {x} h l e =
      let k : i < length (take left Q) = omega (arith, length-take-le left Q l) in
      subst (λ z. In z (take left Q)) (get_or-take left Q i 0 h ∙ sym e) (place_in_lem (take left Q) i k)

-- ---- whether a name is an event

pub event_told : {S I : List ℕ} {n x : ℕ} → Arrays S I n → x < n → leb (get_or S (x + 1) 0) (get_or S x 0) ≡ is_event (inputs_of S I x)
unfolding inputs_of
event_told {S} {I} {n} {x} a h =
    let b : Bool = leb (get_or S (x + 1) 0) (get_or S x 0) in
    either b
    (λ e. e ∙ sym (ap is_event (slice_none (get_or S x 0) (get_or S (x + 1) 0) I (leb-true (get_or S (x + 1) 0) (get_or S x 0) e))))
    (λ e. e ∙ sym (ap is_event (slice_next (get_or S x 0) (get_or S (x + 1) 0) I (leb-false (get_or S (x + 1) 0) (get_or S x 0) e) (a.inside x h))))

-- ---- how many inputs a name has

pub size_some : {S I : List ℕ} {n x : ℕ} → Arrays S I n → x < n → get_or S (x + 1) 0 - get_or S x 0 ≡ length (inputs_of S I x)
unfolding inputs_of
size_some {S} {I} {n} {x} a h = sym (length-slice (get_or S x 0) (get_or S (x + 1) 0) I (a.inside x h))

pub none_event : (l : List ℕ) {n : ℕ} → n ≡ length l → n ≤ 0 → is_event l ≡ true
none_event [] e h = refl
none_event (y ∷ l) e h = absurd (omega arith)

pub some_gate : (l : List ℕ) {n : ℕ} → n ≡ length l → 0 < n → is_event l ≡ false
some_gate [] e h = absurd (omega arith)
some_gate (y ∷ l) e h = refl

-- ---- events and gates of two lists of names, one behind the other

module _ (g : ℕ → List ℕ) where
  pub events_append : (l m : List ℕ) → events_of g (l ++ m) ≡ events_of g l ++ events_of g m
  events_append [] m = refl
  events_append (x ∷ l) m = go (is_event (g x)) (events_append l m)
    where
      go : (b : Bool) → events_of g (l ++ m) ≡ events_of g l ++ events_of g m
          → cond b (x ∷ events_of g (l ++ m)) (events_of g (l ++ m)) ≡ cond b (x ∷ events_of g l) (events_of g l) ++ events_of g m
      go true r = ap (λ k. x ∷ k) r
      go false r = r

  pub gates_append : (l m : List ℕ) → gates_of g (l ++ m) ≡ gates_of g l ++ gates_of g m
  gates_append [] m = refl
  gates_append (x ∷ l) m = go (is_event (g x)) (gates_append l m)
    where
      go : (b : Bool) → gates_of g (l ++ m) ≡ gates_of g l ++ gates_of g m
          → cond b (gates_of g (l ++ m)) (x ∷ gates_of g (l ++ m)) ≡ cond b (gates_of g l) (x ∷ gates_of g l) ++ gates_of g m
      go true r = r
      go false r = ap (λ k. x ∷ k) r

  pub in_events : (y : ℕ) (l : List ℕ) → In y l → is_event (g y) ≡ true → In y (events_of g l)
  in_events y [] h e = h
  in_events y (x ∷ l) (inl q) e = let k : is_event (g x) ≡ true = ap (λ z. is_event (g z)) (sym q) ∙ e in rw k (inl q)
  in_events y (x ∷ l) (inr h) e = go (is_event (g x)) (in_events y l h e)
    where
      go : (b : Bool) → In y (events_of g l) → In y (cond b (x ∷ events_of g l) (events_of g l))
      go true k = inr k
      go false k = k

  pub in_gates : (y : ℕ) (l : List ℕ) → In y l → is_event (g y) ≡ false → In y (gates_of g l)
  in_gates y [] h e = h
  in_gates y (x ∷ l) (inl q) e = let k : is_event (g x) ≡ false = ap (λ z. is_event (g z)) (sym q) ∙ e in rw k (inl q)
  in_gates y (x ∷ l) (inr h) e = go (is_event (g x)) (in_gates y l h e)
    where
      go : (b : Bool) → In y (gates_of g l) → In y (cond b (gates_of g l) (x ∷ gates_of g l))
      go true k = k
      go false k = inr k

-- ---- the number of a name among the first of those that are numbered in turn

pub turn_low : (N l m : List ℕ) → InTurn N (l ++ m) → (y : ℕ) → In y l → get_or N y 0 < length l
turn_low N l m t y h = go (in_place y l h)
  where
    go : (j : ℕ) × (j < length l) × (get_or l j 0 ≡ y) → get_or N y 0 < length l
    go p =
        let k : p.0 < length (l ++ m) = omega (arith, length-append l m, p.1) in
        let e : get_or (l ++ m) p.0 0 ≡ y = get_or-append l m 0 p.0 p.1 ∙ p.2 in
        let q : get_or N y 0 ≡ p.0 = ap (λ z. get_or N z 0) (sym e) ∙ t p.0 k in
        omega (arith, p.1)

module _ (S I G : List ℕ) where
  pub chances_append : (l m : List ℕ) → chances_among S I G (l ++ m) ≡ chances_among S I G l ++ chances_among S I G m
  unfolding chances_among
  chances_append l m = ap (map (λ x. get_or G x 0)) (events_append (inputs_of S I) l m) ∙ map_append (λ x. get_or G x 0) (events_of (inputs_of S I) l) (events_of (inputs_of S I) m)

  pub chances_event : (x : ℕ) → is_event (inputs_of S I x) ≡ true → chances_among S I G (x ∷ []) ≡ get_or G x 0 ∷ []
  unfolding chances_among
  chances_event x e = rw (e, chances_among)

  pub chances_gate : (x : ℕ) → is_event (inputs_of S I x) ≡ false → chances_among S I G (x ∷ []) ≡ []
  unfolding chances_among
  chances_gate x e = rw (e, chances_among)

module _ (S I N K L : List ℕ) where
  pub gates_among_append : (l m : List ℕ) → gates_among S I N K L (l ++ m) ≡ gates_among S I N K L l ++ gates_among S I N K L m
  unfolding gates_among
  gates_among_append l m = ap (map (gate_at S I N K L)) (gates_append (inputs_of S I) l m) ∙ map_append (gate_at S I N K L) (gates_of (inputs_of S I) l) (gates_of (inputs_of S I) m)

  pub gates_event : (x : ℕ) → is_event (inputs_of S I x) ≡ true → gates_among S I N K L (x ∷ []) ≡ []
  unfolding gates_among
  gates_event x e = rw (e, gates_among)

  pub gates_gate : (x : ℕ) → is_event (inputs_of S I x) ≡ false → gates_among S I N K L (x ∷ []) ≡ gate_at S I N K L x ∷ []
  unfolding gates_among
  gates_gate x e = rw (e, gates_among)
