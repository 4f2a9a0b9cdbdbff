-- What holds of every accepted tree: as lists, and as the paper has it.
-- Assumes nothing.
use mathlib.Core.Path.{◌≡◌, refl, ap}
use mathlib.Core.Bool.{Bool, true, false}
use mathlib.Core.List.{List, [], ◌∷◌, map}
use Prim.Native.Nat.{ℕ, zero, suc, ◌+◌, ◌-◌, ◌*◌, ◌≤◌, ◌<◌}
use native.Mathlib.Omega.{arith}
use native.Mathlib.Nat.{zero-add}
use lib.ListN.{length, get_or, take, drop, length-take, length-map}
use lib.Seq.{get_or-drop, get_or-take, take_all}
use lib.Dec.{ltb, eqb}
use borrow.Author.Tests.{ltb-true, ltb-false, eqb-false}
use Rattle.std.specs.Prelude.{Option, Some, None}
use Rattle.paper.specs.Limits.{limits}
use Rattle.paper.specs.Lists.{sum}
use Rattle.paper.specs.Trees.{Input, Gate, events, InputBelow, InputsBelow, GateBelow, TreeBelow}
use Rattle.paper.specs.Flat.{gates_from, failed_from, input_of, gate_of, gates_of}
use Rattle.rules.specs.Format.{event_length}
use Rattle.records.specs.Uses.{among, lowest_unused, unused_of}
use Rattle.rules.specs.Rules.{wrong_k, Fits}
use Rattle.records.specs.Judge.{Book, accept, outcome}
use Rattle.records.specs.Trees.{Lawful, tree_of, InputLower, InputsLower, GateLower, TreeLower}
use Rattle.rules.proofs.Cases.{if_elim, either}
use Rattle.records.proofs.Sums.{sum_take, sum_rises}
use Rattle.records.proofs.Starving.{distinct_few}
use Rattle.records.proofs.Runs.{Closed, accepted_keeps}

-- ---- no item is unused

used_step : (n i from : ℕ) (inputs : List ℕ) → lowest_unused (suc n) i from inputs ≡ None
    → (among (from + i) inputs ≡ true) × (lowest_unused n (i + 1) from inputs ≡ None)
unfolding lowest_unused
used_step n i from inputs e = go (among (from + i) inputs) refl
  where
    go : (b : Bool) → among (from + i) inputs ≡ b → (among (from + i) inputs ≡ true) × (lowest_unused n (i + 1) from inputs ≡ None)
    go true q = (q, rw (q, lowest_unused) at e)
    go false q = let d : Some i ≡ None = rw (q, lowest_unused) at e in let z : ◌≡◌ {A = ℕ} 0 1 = cc in absurd (omega arith)

used_each : (n i from : ℕ) (inputs : List ℕ) → lowest_unused n i from inputs ≡ None → (x : ℕ) → i ≤ x → x < i + n → among (from + x) inputs ≡ true
used_each zero i from inputs e x low high = absurd (omega arith)
used_each (suc n) i from inputs e x low high =
    let (here, on) = used_step n i from inputs e in
    either (ltb i x)
    (λ q. used_each n (i + 1) from inputs on x (omega (arith, ltb-true i x q)) (omega arith))
    (λ q. let same : x ≡ i = omega (arith, ltb-false i x q) in rw same here)

nothing_unused : (sited : Bool) (n : ℕ) (sizes places inputs : List ℕ) → unused_of sited n sizes places inputs ≡ None
    → (lowest_unused n 0 0 inputs ≡ None) × (lowest_unused (length sizes - 1) 0 gates_from inputs ≡ None)
unfolding unused_of
nothing_unused sited n sizes places inputs e = first (lowest_unused n 0 0 inputs) refl
  where
    second : lowest_unused n 0 0 inputs ≡ None → (f : Option ℕ) → lowest_unused (length sizes - 1) 0 gates_from inputs ≡ f → (lowest_unused n 0 0 inputs ≡ None) × (lowest_unused (length sizes - 1) 0 gates_from inputs ≡ None)
    second p (Some g) q = let d : Some (get_or places g 0) ≡ None = rw (p, q, unused_of) at e in let z : ◌≡◌ {A = ℕ} 0 1 = cc in absurd (omega arith)
    second p None q = (p, q)

    first : (f : Option ℕ) → lowest_unused n 0 0 inputs ≡ f → (lowest_unused n 0 0 inputs ≡ None) × (lowest_unused (length sizes - 1) 0 gates_from inputs ≡ None)
    first (Some i) q = let d : Some (event_length sited * i) ≡ None = rw (q, unused_of) at e in let z : ◌≡◌ {A = ℕ} 0 1 = cc in absurd (omega arith)
    first None q = second q (lowest_unused (length sizes - 1) 0 gates_from inputs) refl

right_k : (kind k n : ℕ) → wrong_k kind k n ≡ false → kind ≡ 4 → (1 ≤ k) × (k ≤ n)
right_k kind k n e q =
    let w : wrong_k 4 k n ≡ false = rw q at e in
    either (eqb k 0)
    (λ z. let d : true ≡ false = rw z at w in let y : ◌≡◌ {A = ℕ} 0 1 = cc in absurd (omega arith))
    (λ z. (omega (arith, eqb-false k 0 z), ltb-false n k (rw z at w)))

-- ---- as lists

pub lawful_closed : {bytes : List ℕ} {P : Book → Type 0} {b : Book} → Closed bytes P b → Lawful limits b
lawful_closed {b = b} v =
    let k = v.kept in
    let all : sum b.sizes ≡ length b.inputs = omega (arith, k.wanted, v.close.none) in
    let upto : (g : ℕ) → g < length b.sizes → sum (take g b.sizes) + get_or b.sizes g 0 ≤ length b.inputs = λ g h.
    omega (arith, all, sum_take b.sizes g h, sum_rises b.sizes (g + 1) (length b.sizes) (omega arith), ap sum (take_all (length b.sizes) b.sizes (omega arith))) in
    let used = nothing_unused b.sited (length b.events) b.sizes b.places b.inputs v.used in
    record {
      some_event = v.close.some_event;
      some_gate = v.close.some_gate;
      few_events = k.few_events;
      few_gates = k.few_gates;
      same_kinds = k.same_kinds;
      same_leasts = k.same_leasts;
      all_inputs = all;
      few_inputs = omega (arith, k.few_inputs);
      chances = k.chances;
      sites = k.sites;
      kinds = λ g h. k.kinds g (omega (arith, k.same_kinds));
      sizes = k.sizes;
      leasts = λ g h q. right_k _ _ _ (k.right g h (upto g h)) q;
      plain = k.plain;
      inputs = λ g h i j.
          k.fits g h i j (omega (arith, upto g h));
      events_used = λ e h. rw zero-add at (used_each (length b.events) 0 0 b.inputs used.0 e (omega arith) (omega arith));
      gates_used = λ g h. used_each (length b.sizes - 1) 0 gates_from b.inputs used.1 g (omega arith) (omega arith);
    }

pub lawful : (bytes : List ℕ) (b : Book) → outcome limits bytes ≡ accept b → Lawful limits b
lawful bytes b e = lawful_closed (accepted_keeps bytes (λ _. Unit {0}) (λ b c site sited next k p on. tt) (λ b kind least n next k p on. tt) (λ b i next k p on. tt) b tt e)

-- so k is at most the number of inputs
pub least_few : {b : Book} → Lawful limits b → (g : ℕ) → g < length b.sizes → get_or b.kinds g 0 ≡ 4 → get_or b.leasts g 0 ≤ get_or b.sizes g 0
least_few {b} l g h q = omega (arith, (l.leasts g h q).1, distinct_few b.sizes b.inputs g)

-- ---- as the paper has it

-- n events, and a gate numbered g
module _ (n g : ℕ) (low : g ≤ limits.gates) where
  input_below : (code : ℕ) → Fits n g code → InputBelow n (input_of code) × InputLower g (input_of code)
  input_below code f =
      if_elim (λ (x : Input). InputBelow n x × InputLower g x) (ltb code gates_from)
      (λ e. (f.event (ltb-true code gates_from e), tt))
      (λ e. if_elim (λ (x : Input). InputBelow n x × InputLower g x) (ltb code failed_from)
      (λ _. (tt, omega (arith, ltb-false code gates_from e, f.below)))
      (λ k. absurd (omega (arith, ltb-false code failed_from k, f.below))))

  inputs_below : (codes : List ℕ) → ((i : ℕ) → i < length codes → Fits n g (get_or codes i 0)) → InputsBelow n (map input_of codes) × InputsLower g (map input_of codes)
  inputs_below [] f = (tt, tt)
  inputs_below (code ∷ codes) f =
      let (a, b) = input_below code (f 0 (omega arith)) in
      let (x, y) = inputs_below codes (λ i h. f (suc i) (omega arith)) in
      ((a, x), (b, y))

  gate_below : (kind k : ℕ) (is : List Input) → InputsBelow n is × InputsLower g is → GateBelow n (gate_of kind k is) × GateLower g (gate_of kind k is)
  gate_below kind k is f =
      if_elim (λ (x : Gate). GateBelow n x × GateLower g x) (eqb kind 2) (λ _. f) (λ _. if_elim (λ (x : Gate). GateBelow n x × GateLower g x) (eqb kind 3) (λ _. f) (λ _. f))

gates_below : (n : ℕ) (kinds leasts : List ℕ) (g : ℕ) (sizes inputs : List ℕ) → g + length sizes ≤ limits.gates
    → ((x : ℕ) → x < length sizes → (i : ℕ) → i < get_or sizes x 0 → Fits n (g + x) (get_or inputs (sum (take x sizes) + i) 0))
    → TreeBelow n (gates_of kinds leasts g sizes inputs) × TreeLower g (gates_of kinds leasts g sizes inputs)
unfolding gates_of
gates_below n kinds leasts g [] inputs few f = (tt, tt)
gates_below n kinds leasts g (m ∷ sizes) inputs few f =
    let mine : (i : ℕ) → i < length (take m inputs) → Fits n g (get_or (take m inputs) i 0) = λ i h.
    let low : i < m = omega (arith, length-take m inputs) in
    let at : 0 + i ≡ i = omega arith in
    let own : g + 0 ≡ g = omega arith in
    rw (get_or-take m inputs i 0 low) (rw (own, at) at (f 0 (omega arith) i low)) in
    let rest : (x : ℕ) → x < length sizes → (i : ℕ) → i < get_or sizes x 0 → Fits n (g + 1 + x) (get_or (drop m inputs) (sum (take x sizes) + i) 0) = λ x h i l.
    let at : m + sum (take x sizes) + i ≡ m + (sum (take x sizes) + i) = omega arith in
    let own : g + suc x ≡ g + 1 + x = omega arith in
    rw (get_or-drop m inputs (sum (take x sizes) + i) 0) (rw (own, at) at (f (suc x) (omega arith) i l)) in
    let (a, b) = gate_below n g (omega arith) (get_or kinds g 0) (get_or leasts g 0) (map input_of (take m inputs)) (inputs_below n g (omega arith) (take m inputs) mine) in
    let (x, y) = gates_below n kinds leasts (g + 1) sizes (drop m inputs) (omega arith) rest in
    ((a, x), (b, y))

-- a tree that was read names events below the number of its events, and each gate only lower gates
pub tree_below : {b : Book} → Lawful limits b → TreeBelow (length b.events) (tree_of b).gates × TreeLower 0 (tree_of b).gates
unfolding tree_of
tree_below {b} v =
    gates_below (length b.events) b.kinds b.leasts 0 b.sizes b.inputs (omega (arith, v.few_gates))
    (λ x h i l. let own : 0 + x ≡ x = omega arith in rw own (v.inputs x h i l))

pub tree_events : (b : Book) → events (tree_of b) ≡ length b.events
unfolding tree_of
tree_events b = length-map b.events _

gates_count : (kinds leasts : List ℕ) (g : ℕ) (sizes inputs : List ℕ) → length (gates_of kinds leasts g sizes inputs) ≡ length sizes
unfolding gates_of
gates_count kinds leasts g [] inputs = refl
gates_count kinds leasts g (n ∷ sizes) inputs = ap suc (gates_count kinds leasts (g + 1) sizes (drop n inputs))

pub tree_gates : (b : Book) → length (tree_of b).gates ≡ length b.sizes
unfolding tree_of
tree_gates b = gates_count b.kinds b.leasts 0 b.sizes b.inputs
