-- The gates of an order, put into the arrays of a tree one by one.
-- Assumes nothing.
use mathlib.Core.Path.{◌≡◌, refl, sym, ap, ◌∙◌, subst}
use mathlib.Core.Bool.{true, false}
use mathlib.Core.List.{List, [], ◌∷◌, ◌++◌, map, map-map, append-nil}
use Prim.Native.Nat.{ℕ, ◌+◌, ◌≤◌, ◌<◌}
use native.Mathlib.Omega.{arith}
use lib.ListN.{length, get_or, take, drop, set, length-append}
use lib.Seq.{get_or-take, take-take, length-take-le}
use Rattle.paper.specs.Limits.{limits}
use Rattle.paper.specs.Lists.{In, flat, sum}
use Rattle.paper.specs.Trees.{Gate, same_input}
use Rattle.paper.specs.Walks.{is_event, events_of, gates_of}
use Rattle.paper.specs.Importing.{or_else, inputs_to, events_break, gate_breaks, gates_break, broken}
use Rattle.twins.proofs.Firsts.{firsts_length}
use Rattle.rules.proofs.Cases.{either}
use Rattle.records.specs.Memory.{pad, memory}
use Rattle.records.specs.declared.Event.{Event}
use Rattle.records.specs.Flattened.{kind_of, least_of, size_of, code_of, codes_of, event_of, book_of}
use Rattle.records.proofs.Lists.{map_length, map_append, flat_append}
use Rattle.records.proofs.Pad.{pad_fill}
use Rattle.records.proofs.Sums.{sum_▷}
use Rattle.records.proofs.Breaks.{or_else_none, or_else_some, or_else_last, GateRight, gate_right, gates_few, gates_room, events_few}
use Rattle.records.proofs.Breaks as breaks
use Rattle.records.proofs.Flattened.{codes_sum, least_right}
use Rattle.depthfirst.specs.Inputs.{inputs_of}
use Rattle.planting.specs.Orders.{input_at, gate_at, chances_among, gates_among, Sowable, Plantable}
use Rattle.paper.specs.Refusals.{number}
use Rattle.paper.specs.declared.refusal.Refusal.{Refusal}
use Rattle.paper.proofs.Refusals.{number_above}
use Rattle.planting.specs.Planting.{EventsIn, GatesIn, Plants, PlantsOver, GateTold, LeastKept, Putable, Puts, Sortable, DistinctTold}
use Rattle.planting.specs.declared.Sown.{Sown}
use Rattle.std.specs.Prelude.{Ok, Err}
use Rattle.planting.proofs.Orders.{one_more, the_rest, name_in, none_event, some_gate, events_append, gates_append, in_events, in_gates, turn_low, gates_event, gates_gate, gates_among_append}
use Rattle.planting.proofs.Gates.{gate_inputs, gate_kind}

among_long : (S I N K L l : List ℕ) → length (gates_among S I N K L l) ≡ length (gates_of (inputs_of S I) l)
unfolding gates_among
among_long S I N K L l = map_length (gate_at S I N K L) (gates_of (inputs_of S I) l)

-- ---- the gate that a name is

module _ (S I N K L : List ℕ) (x : ℕ) where
  inputs_are : inputs_to (gate_at S I N K L x) ≡ map (input_at S I N) (inputs_of S I x)
  unfolding gate_at
  inputs_are = gate_inputs (get_or K x 0) (get_or L x 0) (map (input_at S I N) (inputs_of S I x))

  size_is : size_of (gate_at S I N K L x) ≡ length (inputs_of S I x)
  size_is = ap length inputs_are ∙ map_length (input_at S I N) (inputs_of S I x)

  codes_are : codes_of (gate_at S I N K L x) ≡ map (λ y. code_of (input_at S I N y)) (inputs_of S I x)
  codes_are = ap (map code_of) inputs_are ∙ map-map code_of (input_at S I N) (inputs_of S I x)

  kind_is : (2 ≤ get_or K x 0) × (get_or K x 0 ≤ 4) → kind_of (gate_at S I N K L x) ≡ get_or K x 0
  unfolding gate_at
  kind_is h = gate_kind (get_or K x 0) (get_or L x 0) (map (input_at S I N) (inputs_of S I x)) h

  least_is : {k : ℕ} → LeastKept (get_or K x 0) (get_or L x 0) k → least_of (gate_at S I N K L x) ≡ k
  unfolding gate_at
  least_is kept = sym (kept (map (input_at S I N) (inputs_of S I x)))

  least_four : get_or K x 0 ≡ 4 → least_of (gate_at S I N K L x) ≡ get_or L x 0
  unfolding gate_at
  least_four e = rw e

  told_is : (g used : ℕ) {n d m : ℕ} → n ≡ length (inputs_of S I x) → DistinctTold S I N x d → GateTold g used (get_or K x 0) (get_or L x 0) n d m
      → m ≡ gate_breaks limits g used (gate_at S I N K L x)
  unfolding gate_at
  told_is g used e few told = told (map (input_at S I N) (inputs_of S I x)) (map_length (input_at S I N) (inputs_of S I x) ∙ sym e) (λ h. few (omega arith))

-- ---- one turn

pub grown_room : {X : List Gate} {g used : ℕ} {ks ls ns is : List ℕ} → GatesIn X g used ks ls ns is → used ≤ limits.in_all
grown_room {X} w = omega (arith, w.all, gates_room limits X 0 0 w.within (omega arith))

-- what is asked of an order for its events
pub sowable : {S I : List ℕ} {n : ℕ} {Q : List ℕ} {left : ℕ} {G N K L : List ℕ} → Plantable S I n Q left N K L → n ≤ length G → Sowable S I n Q left G
sowable a h = record { arrays = a.numbered.arrays; inside = a.numbered.inside; low = a.numbered.low; chances = h }

module _ {S I : List ℕ} {n : ℕ} {Q : List ℕ} {left : ℕ} {N K L : List ℕ} (a : Plantable S I n Q left N K L) where
  abbrev X : ℕ → List Gate
  X i = gates_among S I N K L (take i Q)

  abbrev inputs : ℕ → List ℕ
  inputs = inputs_of S I

  pub grown_none : GatesIn (X 0) 0 0 (pad limits.gates 0 []) (pad limits.gates 0 []) (pad limits.gates 0 []) (pad limits.in_all 0 [])
  unfolding gates_among gates_break
  grown_none = record { within = refl; count = refl; all = refl; kinds = refl; leasts = refl; sizes = refl; inputs = refl }

  module _ {i x : ℕ} (more : i < left) (ex : x ≡ get_or Q i 0) where
    pub grown_low : x < n
    grown_low = a.numbered.low x (name_in Q more a.numbered.inside ex)

    gates_more : X (i + 1) ≡ X i ++ gates_among S I N K L (x ∷ [])
    gates_more = ap (gates_among S I N K L) (one_more Q (omega (arith, a.numbered.inside)) ex) ∙ gates_among_append S I N K L (take i Q) (x ∷ [])

    module _ {g used : ℕ} {ks ls ns is : List ℕ} (w : GatesIn (X i) g used ks ls ns is) {size : ℕ} (long : size ≡ length (inputs x)) where
      pub grown_event : size ≤ 0 → GatesIn (X (i + 1)) g used ks ls ns is
      grown_event h =
          let same : X (i + 1) ≡ X i = gates_more ∙ ap (λ m. X i ++ m) (gates_event S I N K L x (none_event (inputs x) long h)) ∙ append-nil (X i) in
          rw same w

      module _ (some : 0 < size) where
        is_gate : is_event (inputs x) ≡ false
        is_gate = some_gate (inputs x) long some

        pub grown_kind : (2 ≤ get_or K x 0) × (get_or K x 0 ≤ 4)
        grown_kind = a.known x (in_gates inputs x (take left Q) (name_in Q more a.numbered.inside ex) is_gate)

        longer : X (i + 1) ≡ X i ++ (gate_at S I N K L x ∷ [])
        longer = gates_more ∙ ap (λ m. X i ++ m) (gates_gate S I N K L x is_gate)

        module _ (kinds : length (events_of inputs (take left Q)) ≤ limits.events) where
          -- an input stands before the name in the order, so that its number is a lower one of its kind
          early : (y : ℕ) → In y (inputs x) → In y (take i Q)
          early y h =
              let l : List ℕ = take left Q in
              let here : get_or l i 0 ≡ x = get_or-take left Q i 0 more ∙ sym ex in
              let inside : i < length l = omega (arith, length-take-le left Q a.numbered.inside) in
              let before : In y (take i l) = a.numbered.ordered.after i y inside (subst (λ z. In y (inputs z)) (sym here) h) in
              subst (λ m. In y m) (take-take i left Q (omega arith)) before

          split : take left Q ≡ take i Q ++ drop i (take left Q)
          split = let k : i ≤ left = omega arith in the_rest Q k

          event_small : (y : ℕ) → In y (inputs x) → is_event (inputs y) ≡ true → get_or N y 0 < limits.events
          event_small y h e =
              let parts : events_of inputs (take left Q) ≡ events_of inputs (take i Q) ++ events_of inputs (drop i (take left Q))
              = ap (events_of inputs) split ∙ events_append inputs (take i Q) (drop i (take left Q)) in
              let low = turn_low N (events_of inputs (take i Q)) (events_of inputs (drop i (take left Q))) (rw parts at a.event_turn) y (in_events inputs y (take i Q) (early y h) e) in
              omega (arith, low, kinds, ap length parts, length-append (events_of inputs (take i Q)) (events_of inputs (drop i (take left Q))))

          gate_small : (y : ℕ) → In y (inputs x) → is_event (inputs y) ≡ false → get_or N y 0 < limits.gates
          gate_small y h e =
              let parts : gates_of inputs (take left Q) ≡ gates_of inputs (take i Q) ++ gates_of inputs (drop i (take left Q))
              = ap (gates_of inputs) split ∙ gates_append inputs (take i Q) (drop i (take left Q)) in
              let low = turn_low N (gates_of inputs (take i Q)) (gates_of inputs (drop i (take left Q))) (rw parts at a.gate_turn) y (in_gates inputs y (take i Q) (early y h) e) in
              let as_many : length (X i) ≡ length (gates_of inputs (take i Q)) = among_long S I N K L (take i Q) in
              omega (arith, low, as_many, w.count, gates_few limits (X i) 0 0 w.within (omega arith))

          pub grown_sortable : Sortable S I n N x
          grown_sortable = record {
            arrays = a.numbered.arrays;
            low = grown_low;
            long = a.numbered.long;
            small = λ y h. either (is_event (inputs y)) (λ e. event_small y h e) (λ e. omega (arith, gate_small y h e));
          }

        module _ {d m : ℕ} (few : DistinctTold S I N x d) (judged : GateTold g used (get_or K x 0) (get_or L x 0) size d m) where
          one_gate : gates_break limits g used (gate_at S I N K L x ∷ []) ≡ m
          unfolding gates_break
          one_gate = or_else_last (gate_breaks limits g used (gate_at S I N K L x)) ∙ sym (told_is S I N K L x g used long few judged)

          breaks_next : gates_break limits 0 0 (X (i + 1)) ≡ m
          breaks_next =
              let p : 0 + length (X i) ≡ g = omega (arith, w.count) in
              let q : 0 + sum (map size_of (X i)) ≡ used = omega (arith, w.all) in
              ap (gates_break limits 0 0) longer ∙ breaks.gates_append limits (X i) (gate_at S I N K L x ∷ []) 0 0 ∙ or_else_none _ _ w.within
              ∙ ap (λ k. gates_break limits k (0 + sum (map size_of (X i))) (gate_at S I N K L x ∷ [])) p
              ∙ ap (λ k. gates_break limits g k (gate_at S I N K L x ∷ [])) q ∙ one_gate

          pub grown_broken : (why : Refusal) → number why ≡ m → (e : Sown) → PlantsOver e (X left) (Err why)
          unfolding broken
          grown_broken why told_why e C f =
              let rest : List ℕ = drop (i + 1) (take left Q) in
              let split : X left ≡ X (i + 1) ++ gates_among S I N K L rest =
              ap (gates_among S I N K L) (let k : i + 1 ≤ left = omega arith in the_rest Q k) ∙ gates_among_append S I N K L (take (i + 1) Q) rest in
              let later : ℕ = gates_break limits (0 + length (X (i + 1))) (0 + sum (map size_of (X (i + 1)))) (gates_among S I N K L rest) in
              let one : gates_break limits 0 0 (X left) ≡ m =
              ap (gates_break limits 0 0) split ∙ breaks.gates_append limits (X (i + 1)) (gates_among S I N K L rest) 0 0
              ∙ ap (λ k. or_else k later) breaks_next ∙ or_else_some m later (omega (arith, number_above why, told_why)) in
              told_why ∙ sym one ∙ sym (or_else_none (events_break limits 0 C) (gates_break limits 0 0 (X left)) f.within)

          module _ (none : m ≤ 0) where
            within_next : gates_break limits 0 0 (X (i + 1)) ≡ 0
            within_next = omega (arith, breaks_next)

            right : GateRight limits g used (gate_at S I N K L x)
            right = gate_right limits g used (gate_at S I N K L x) (omega (arith, told_is S I N K L x g used long few judged))

            size_here : size_of (gate_at S I N K L x) ≡ size
            size_here = size_is S I N K L x ∙ sym long

            pub grown_few : g < limits.gates
            grown_few = right.few

            pub grown_small : size ≤ limits.inputs
            grown_small = omega (arith, right.small, size_here)

            pub grown_fits : used + size ≤ limits.in_all
            grown_fits = omega (arith, right.room, size_here)

            pub grown_least : get_or K x 0 ≡ 4 → get_or L x 0 ≤ limits.inputs
            grown_least e =
                let r = least_right (gate_at S I N K L x) right.least (kind_is S I N K L x grown_kind ∙ e) in
                omega (arith, r.1, least_four S I N K L x e, right.small, firsts_length same_input (inputs_to (gate_at S I N K L x)))

            pub grown_putable : length (events_of inputs (take left Q)) ≤ limits.events → Putable S I n N x used
            grown_putable kinds = record {
              arrays = a.numbered.arrays;
              low = grown_low;
              long = a.numbered.long;
              small = (grown_sortable kinds).small;
              room = omega (arith, grown_fits, long);
            }

            pub grown_gate : {k : ℕ} → LeastKept (get_or K x 0) (get_or L x 0) k → {out : List ℕ} → Puts S I N (inputs x) used is out
                → GatesIn (X (i + 1)) (g + 1) (used + size) (set ks g (get_or K x 0)) (set ls g k) (set ns g size) out
            grown_gate {k} kept {out} puts =
                let y : Gate = gate_at S I N K L x in
                let f : (h : Gate → ℕ) → map h (X (i + 1)) ≡ map h (X i) ++ (h y ∷ []) = λ h. ap (map h) longer ∙ map_append h (X i) (y ∷ []) in
                let codes : flat codes_of (X (i + 1)) ≡ flat codes_of (X i) ++ map (λ y. code_of (input_at S I N y)) (inputs x)
                = ap (flat codes_of) longer ∙ flat_append codes_of (X i) (y ∷ []) ∙ ap (λ m. flat codes_of (X i) ++ m) (append-nil (codes_of y) ∙ codes_are S I N K L x) in
                record {
                  within = within_next;
                  count = omega (arith, w.count, ap length longer, length-append (X i) (y ∷ []));
                  all = omega (arith, w.all, ap sum (f size_of), sum_▷ (map size_of (X i)) (size_of y), size_here);
                  kinds = put_next kind_of w.kinds (kind_is S I N K L x grown_kind);
                  leasts = put_next least_of w.leasts (least_is S I N K L x kept);
                  sizes = put_next size_of w.sizes size_here;
                  inputs = puts (flat codes_of (X i)) (sym (codes_sum (X i)) ∙ sym w.all) w.inputs ∙ ap (pad limits.in_all 0) (sym codes);
                }
              where
                put_next : (h : Gate → ℕ) {l : List ℕ} {v : ℕ} → l ≡ pad limits.gates 0 (map h (X i)) → h (gate_at S I N K L x) ≡ v
                    → set l g v ≡ pad limits.gates 0 (map h (X (i + 1)))
                put_next h {l} {v} e q =
                    pad_fill limits.gates 0 (map h (X i)) v e (map_length h (X i) ∙ sym w.count) grown_few
                    ∙ ap (pad limits.gates 0) (ap (λ z. map h (X i) ++ (z ∷ [])) (sym q) ∙ sym (map_append h (X i) (gate_at S I N K L x ∷ [])) ∙ ap (map h) (sym longer))

  -- ---- at the end

  pub grown_all : {i g used : ℕ} {ks ls ns is : List ℕ} → i ≤ left → left ≤ i → GatesIn (X i) g used ks ls ns is → (e : Sown)
      → PlantsOver e (X left) (Ok (record {
        events = e.events;
        event_count = e.count;
        sited = false;
        kinds = ks;
        leasts = ls;
        sizes = ns;
        gate_count = g;
        inputs = is;
      }))
  unfolding broken memory book_of
  grown_all {i} {g} {used} {ks} {ls} {ns} {is} l m w e C f =
      let q : i ≡ left = omega arith in
      let v : GatesIn (X left) g used ks ls ns is = subst (λ j. GatesIn (X j) g used ks ls ns is) q w in (
        or_else_none (events_break limits 0 C) (gates_break limits 0 0 (X left)) f.within ∙ v.within,
        λ j. record {
          events = f.is j;
          event_count = (f.count ∙ sym (map_length event_of C)) j;
          sited = false;
          kinds = v.kinds j;
          leasts = v.leasts j;
          sizes = v.sizes j;
          gate_count = (v.count ∙ sym (map_length size_of (X left))) j;
          inputs = v.inputs j;
        },
      )

-- ---- events, then gates

pub plants_events : (C : List ℕ) (why : Refusal) (X : List Gate) → number why ≡ events_break limits 0 C → Plants (record { chances = C; gates = X }) (Err why)
unfolding broken
plants_events C why X s = s ∙ sym (or_else_some (events_break limits 0 C) (gates_break limits 0 0 X) (omega (arith, s, number_above why)))

pub sown_few_events : (S I G l : List ℕ) {e : ℕ} {evs : List Event} → EventsIn (chances_among S I G l) e evs → length (events_of (inputs_of S I) l) ≤ limits.events
unfolding chances_among
sown_few_events S I G l w = omega (arith, events_few limits (chances_among S I G l) 0 w.within (omega arith), map_length (λ x. get_or G x 0) (events_of (inputs_of S I) l))
