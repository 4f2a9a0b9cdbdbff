-- What the answers of the walks say of the equations themselves: `said` gives each name's inputs, and the flat arrays hold them.
-- Assumes nothing.
use mathlib.Core.Path.{◌≡◌, refl, sym, ap, ◌∙◌, subst}
use mathlib.Core.Logic.{inl, inr}
use mathlib.Core.Bool.{Bool, true, false, cond, true≢false}
use mathlib.Core.List.{List, [], ◌∷◌, ◌++◌, foldl}
use Prim.Native.Nat.{ℕ, suc, ◌+◌, ◌-◌, ◌<◌, ◌≤◌}
use native.Mathlib.Omega.{arith}
use lib.ListN.{get_or, length, take, length-append}
use lib.Seq.{slice, length-take-le, get_or-append_seam}
use Rattle.paper.specs.Lists.{In, Once, last_or}
use Rattle.paper.specs.Walks.{Steps, Ring, OneRoot, LeadsBack, visit, postorder, preorder, is_event, events_of, gates_of}
use Rattle.paper.specs.Meaning.{place_in}
use Rattle.depthfirst.specs.Inputs.{inputs_of, Arrays}
use Rattle.depthfirst.specs.Answers.{Shown, InOrder, AllInOrder, Numbers}
use Rattle.depthfirst.proofs.Meeting.{gates_gate}
use Rattle.depthfirst.proofs.Visits.{visit_new}
use Rattle.depthfirst.proofs.All.{input_low, steps_low, ring_back}
use Rattle.depthfirst.proofs.Roots.{root_covers}
use Rattle.depthfirst.proofs.Counting.{all_names_long, ordered_once, place_low, in_turn_place}
use Rattle.depthfirst.proofs.Agreeing.{Agree, agree_sym, Below, ring_agree, back_agree, root_agree, postorder_agree, walk_events_agree, walk_gates_agree}

-- ---- the last name

-- x is the last of the list
pub record LastIs (x : ℕ) (l : List ℕ) : Type 0 where
  pub front : List ℕ
  pub is : l ≡ front ++ (x ∷ [])

last_seam : (d x : ℕ) (l : List ℕ) → last_or d (l ++ (x ∷ [])) ≡ x
last_seam d x [] = refl
last_seam d x (y ∷ l) = last_seam y x l

pub last_or_lem : (d : ℕ) {x : ℕ} {l : List ℕ} → LastIs x l → last_or d l ≡ x
last_or_lem d {x} e = ap (last_or d) e.is ∙ last_seam d x e.front

-- THE ROOT is left last, and it is the last gate where it has inputs
pub root_last : (g : ℕ → List ℕ) {n root : ℕ} → root < n → LastIs root (postorder g n root)
root_last g {n} {root} l =
    let e : suc (n - 1) ≡ n = omega arith in
    subst (λ k. LastIs root (postorder g k root)) e (record { front = foldl (visit g (n - 1)) [] (g root); is = visit_new g (n - 1) [] root (λ h. h) })

last_gate : (g : ℕ → List ℕ) (x : ℕ) (l : List ℕ) → is_event (g x) ≡ false → LastIs x l → LastIs x (gates_of g l)
last_gate g x l k e = go (g x) refl k
  where
    go : (m : List ℕ) → g x ≡ m → is_event m ≡ false → LastIs x (gates_of g l)
    go [] q h = absurd (true≢false h)
    go (y ∷ o) q h = record { front = gates_of g e.front; is = ap (gates_of g) e.is ∙ gates_gate g x y o e.front q }

pub root_last_gate : (g : ℕ → List ℕ) {n root : ℕ} → root < n → is_event (g root) ≡ false → LastIs root (gates_of g (postorder g n root))
root_last_gate g {n} {root} l k = last_gate g root (postorder g n root) k (root_last g l)

-- ---- events and gates of a list

pub in_events : (g : ℕ → List ℕ) (x : ℕ) (l : List ℕ) → is_event (g x) ≡ true → In x l → In x (events_of g l)
in_events g x [] k h = h
in_events g x (y ∷ l) k (inl e) = rw (ap (λ z. is_event (g z)) (sym e) ∙ k) (inl e)
in_events g x (y ∷ l) k (inr h) = go (is_event (g y)) (in_events g x l k h)
  where
    go : (b : Bool) → In x (events_of g l) → In x (cond b (y ∷ events_of g l) (events_of g l))
    go true r = inr r
    go false r = r

pub in_gates : (g : ℕ → List ℕ) (x : ℕ) (l : List ℕ) → is_event (g x) ≡ false → In x l → In x (gates_of g l)
in_gates g x [] k h = h
in_gates g x (y ∷ l) k (inl e) = rw (ap (λ z. is_event (g z)) (sym e) ∙ k) (inl e)
in_gates g x (y ∷ l) k (inr h) = go (is_event (g y)) (in_gates g x l k h)
  where
    go : (b : Bool) → In x (gates_of g l) → In x (cond b (gates_of g l) (y ∷ gates_of g l))
    go true r = r
    go false r = inr r

-- ---- the names of a ring are names

module _ {S I : List ℕ} {n : ℕ} (ar : Arrays S I n) where
  steps_below : (l : List ℕ) (x z : ℕ) → Steps (inputs_of S I) x l z → Below n l
  steps_below [] x z s w h = absurd h
  steps_below (y ∷ l) x z s w (inl e) = subst (λ v. v < n) (sym e) (input_low ar x y s.0)
  steps_below (y ∷ l) x z s w (inr h) = steps_below l y z s.1 w h

  ring_below : (l : List ℕ) → Ring (inputs_of S I) l → Below n l
  ring_below [] s z h = absurd s
  ring_below (x ∷ l) s z (inl e) = subst (λ v. v < n) (sym e) (steps_low ar l x x s)
  ring_below (x ∷ l) s z (inr h) = steps_below l x x s z h

  pub shown_below : {K : List ℕ} {a e : ℕ} → Shown S I K a e → Below n (slice a e K)
  shown_below {K} {a} {e} s = ring_below (slice a e K) s.ring

  -- after all walks without a ring, no walk shows one
  pub no_ring_after : {Q K : List ℕ} {r a e : ℕ} → AllInOrder S I n Q r → Shown S I K a e → ⊥
  no_ring_after {K = K} {a = a} {e} o s = let b = ring_back ar (slice a e K) s.ring in o.ringless b.name b.low b.back

  -- ---- the answers as answers on `said`

  module _ {said : ℕ → List ℕ} (same : (x : ℕ) → x < n → inputs_of S I x ≡ said x) where
    pub arrays_agree : Agree n (inputs_of S I) said
    arrays_agree = record { same = same; inside = λ x y l. input_low ar x y }

    pub ring_said : {K : List ℕ} {a e : ℕ} → Shown S I K a e → Ring said (slice a e K)
    ring_said {K} {a} {e} s = ring_agree arrays_agree (slice a e K) (shown_below s) s.ring

    pub back_said : {K : List ℕ} {a e : ℕ} → Shown S I K a e → LeadsBack said n
    back_said {K} {a} {e} s = back_agree arrays_agree (ring_back ar (slice a e K) s.ring)

    pub none_back : {Q : List ℕ} {r : ℕ} → AllInOrder S I n Q r → LeadsBack said n → ⊥
    none_back o h = let b = back_agree (agree_sym arrays_agree) h in o.ringless b.name b.low b.back

    pub root_said : {root : ℕ} → OneRoot (inputs_of S I) n root → OneRoot said n root
    root_said o = root_agree arrays_agree o

    pub no_root_said : ((root : ℕ) → OneRoot (inputs_of S I) n root → ⊥) → (root : ℕ) → OneRoot said n root → ⊥
    no_root_said f root o = f root (root_agree (agree_sym arrays_agree) o)

    -- ---- the walk from the root, after all walks without a ring

    module _ {root : ℕ} {Q₀ Q : List ℕ} {r₀ r : ℕ} (all : AllInOrder S I n Q₀ r₀) (one : OneRoot (inputs_of S I) n root) (o : InOrder S I n root Q r) where
      pub every_name : (z : ℕ) → z < n → In z (take r Q)
      every_name = root_covers all one o

      pub walked_count : n ≤ length Q → r ≡ n
      walked_count l =
          let k : r ≤ length Q = omega (arith, o.inside) in
          omega (arith, o.inside, all_names_long n (take r Q) every_name, length-take-le r Q k)

      pub walked_once : Once (take r Q)
      walked_once = ordered_once o.ordered

      pub order_said : take r Q ≡ postorder said n root
      order_said = o.is n (omega arith) ∙ postorder_agree arrays_agree n root one.low

      pub events_said : events_of (inputs_of S I) (take r Q) ≡ events_of said (preorder said n root)
      events_said = o.events n (omega arith) ∙ walk_events_agree arrays_agree n root one.low

      pub gates_said : gates_of (inputs_of S I) (take r Q) ≡ gates_of said (postorder said n root)
      gates_said = ap (gates_of (inputs_of S I)) (o.is n (omega arith)) ∙ walk_gates_agree arrays_agree n root one.low

      -- ---- its numbers

      module _ {N : List ℕ} {e h : ℕ} (w : Numbers (inputs_of S I) (take r Q) N e h) where
        pub event_count : e ≡ length (events_of said (preorder said n root))
        event_count = w.events ∙ ap length events_said

        pub gate_count : h ≡ length (gates_of said (postorder said n root))
        gate_count = w.gates ∙ ap length gates_said

        module _ (x : ℕ) (low : x < n) where
          event_here : is_event (said x) ≡ true → In x (events_of (inputs_of S I) (take r Q))
          event_here k = in_events (inputs_of S I) x (take r Q) (ap is_event (same x low) ∙ k) (every_name x low)

          gate_here : is_event (said x) ≡ false → In x (gates_of (inputs_of S I) (take r Q))
          gate_here k = in_gates (inputs_of S I) x (take r Q) (ap is_event (same x low) ∙ k) (every_name x low)

          pub event_number : is_event (said x) ≡ true → get_or N x 0 ≡ place_in x (events_of said (preorder said n root))
          event_number k = in_turn_place N (events_of (inputs_of S I) (take r Q)) w.event_turn x (event_here k) ∙ ap (place_in x) events_said

          pub gate_number : is_event (said x) ≡ false → get_or N x 0 ≡ place_in x (gates_of said (postorder said n root))
          gate_number k = in_turn_place N (gates_of (inputs_of S I) (take r Q)) w.gate_turn x (gate_here k) ∙ ap (place_in x) gates_said

          pub event_number_low : is_event (said x) ≡ true → get_or N x 0 < e
          event_number_low k =
              omega (arith, in_turn_place N (events_of (inputs_of S I) (take r Q)) w.event_turn x (event_here k), place_low x (events_of (inputs_of S I) (take r Q)) (event_here k), w.events)

          pub gate_number_low : is_event (said x) ≡ false → get_or N x 0 < h
          gate_number_low k =
              omega (arith, in_turn_place N (gates_of (inputs_of S I) (take r Q)) w.gate_turn x (gate_here k), place_low x (gates_of (inputs_of S I) (take r Q)) (gate_here k), w.gates)

        -- the root has the last gate's number
        pub root_number : is_event (said root) ≡ false → get_or N root 0 + 1 ≡ h
        root_number k = go (subst (λ m. LastIs root m) (sym gates_said) (root_last_gate said one.low k)) w.gate_turn
          where
            go : LastIs root (gates_of (inputs_of S I) (take r Q))
                → ((i : ℕ) → i < length (gates_of (inputs_of S I) (take r Q)) → get_or N (get_or (gates_of (inputs_of S I) (take r Q)) i 0) 0 ≡ i) → get_or N root 0 + 1 ≡ h
            go l t =
                let long : length (gates_of (inputs_of S I) (take r Q)) ≡ length l.front + 1 = ap length l.is ∙ length-append l.front (root ∷ []) in
                let at : get_or (gates_of (inputs_of S I) (take r Q)) (length l.front) 0 ≡ root = ap (λ m. get_or m (length l.front) 0) l.is ∙ get_or-append_seam l.front root [] 0 in
                let q : get_or N root 0 ≡ length l.front = ap (λ z. get_or N z 0) (sym at) ∙ t (length l.front) (omega arith) in
                omega (arith, w.gates)
