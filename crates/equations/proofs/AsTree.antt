-- An accepted tree, as the paper has it, is a lawful tree: within the limits, each input there before, everything but the last gate used.
-- Assumes nothing.
use mathlib.Core.Path.{◌≡◌, refl, sym, ap, ap₂, ◌∙◌, subst}
use mathlib.Core.Logic.{inl, inr}
use mathlib.Core.Bool.{true, true≢false}
use mathlib.Core.List.{List, [], ◌∷◌, ◌++◌, map}
use Prim.Native.Nat.{ℕ, suc, ◌+◌, ◌-◌, ◌≤◌, ◌<◌}
use native.Mathlib.Omega.{arith}
use lib.Dec.{eqb}
use lib.ListN.{length, get_or, take, drop, length-take, length-drop, take-append-drop}
use lib.Seq.{drop-drop}
use borrow.Author.Tests.{lt-ltb, le-ltb, eqb-true, eqb-false}
use Rattle.paper.specs.Limits.{limits, billion}
use Rattle.paper.specs.Lists.{In, sum}
use Rattle.paper.specs.Trees.{Input, event, gate, Gate, distinct_inputs, TreeBelow}
use Rattle.paper.specs.Flat.{gates_from, failed_from, input_of, gate_of, gates_of}
use Rattle.paper.specs.Importing.{inputs_to}
use Rattle.twins.specs.Distinct.{distinct_codes}
use Rattle.twins.proofs.Inputs.{distinct_inputs_lem}
use Rattle.rules.proofs.Cases.{if_elim, either}
use Rattle.records.specs.Uses.{among}
use Rattle.records.specs.Thresholds.{inputs_at, distinct_at}
use Rattle.records.specs.Judge.{Book}
use Rattle.records.specs.Memory.{no_event}
use Rattle.records.specs.Trees.{Lawful, tree_of}
use Rattle.records.specs.Flattened.{LawfulTree}
use Rattle.records.specs.declared.Event.{Event}
use Rattle.records.proofs.Lists.{map_append, map_in, map_length}
use Rattle.trees.proofs.Lawful.{tree_below, tree_events, tree_gates}
use Rattle.meaning.specs.Within.{LeastFits, all_inputs}
use Rattle.meaning.proofs.Rules.{lawful_of}

-- ---- the inputs of all gates are the inputs in the row

gate_inputs : (kind k : ℕ) (is : List Input) → inputs_to (gate_of kind k is) ≡ is
gate_inputs kind k is = if_elim (λ (x : Gate). inputs_to x ≡ is) (eqb kind 2) (λ _. refl) (λ _. if_elim (λ (x : Gate). inputs_to x ≡ is) (eqb kind 3) (λ _. refl) (λ _. refl))

all_inputs_lem : (kinds leasts : List ℕ) (g : ℕ) (sizes inputs : List ℕ) → sum sizes ≡ length inputs → all_inputs (gates_of kinds leasts g sizes inputs) ≡ map input_of inputs
unfolding gates_of
all_inputs_lem kinds leasts g [] [] e = refl
all_inputs_lem kinds leasts g [] (i ∷ inputs) e = absurd (omega arith)
all_inputs_lem kinds leasts g (n ∷ sizes) inputs e =
    ap₂ ◌++◌ (gate_inputs (get_or kinds g 0) (get_or leasts g 0) (map input_of (take n inputs)))
    (all_inputs_lem kinds leasts (g + 1) sizes (drop n inputs) (omega (arith, length-drop n inputs)))
    ∙ sym (map_append input_of (take n inputs) (drop n inputs)) ∙ ap (map input_of) (take-append-drop n inputs)

among_in : (x : ℕ) (l : List ℕ) → among x l ≡ true → In x l
unfolding among
among_in x [] e = absurd (true≢false (sym e))
among_in x (y ∷ l) e = either (eqb y x) (λ q. inl (sym (eqb-true y x q))) (λ q. inr (among_in x l (rw (q, among) at e)))

-- ---- what each gate keeps

gate_fits : (kind k : ℕ) (is : List Input) → (2 ≤ kind) × (kind ≤ 4) → (kind ≡ 4 → (1 ≤ k) × (k ≤ length (distinct_inputs is))) → LeastFits (gate_of kind k is)
gate_fits kind k is r f =
    if_elim LeastFits (eqb kind 2) (λ _. tt)
    (λ a. if_elim LeastFits (eqb kind 3) (λ _. tt)
    (λ b. f (omega (arith, r.0, r.1, eqb-false kind 2 a, eqb-false kind 3 b))))

abbrev Fitting : Gate → Type 0
Fitting x = (1 ≤ length (inputs_to x)) × (length (inputs_to x) ≤ limits.inputs) × LeastFits x

each_gate : (kinds leasts : List ℕ) (g : ℕ) (sizes inputs : List ℕ) → sum sizes ≡ length inputs
    → ((x : ℕ) → x < length sizes → (codes : List ℕ) → codes ≡ inputs_at sizes inputs x → length codes ≡ get_or sizes x 0
    → Fitting (gate_of (get_or kinds (g + x) 0) (get_or leasts (g + x) 0) (map input_of codes)))
    → (y : Gate) → In y (gates_of kinds leasts g sizes inputs) → Fitting y
unfolding gates_of
each_gate kinds leasts g [] inputs e f y h = absurd h
each_gate kinds leasts g (n ∷ sizes) inputs e f y (inl p) =
    let long : length (take n inputs) ≡ n = omega (arith, length-take n inputs) in
    let own : g + 0 ≡ g = omega arith in
    subst Fitting (sym p) (subst (λ m. Fitting (gate_of (get_or kinds m 0) (get_or leasts m 0) (map input_of (take n inputs)))) own (f 0 (omega arith) (take n inputs) refl long))
each_gate kinds leasts g (n ∷ sizes) inputs e f y (inr h) =
    each_gate kinds leasts (g + 1) sizes (drop n inputs) (omega (arith, length-drop n inputs))
    (λ x l codes c q.
    let own : g + suc x ≡ g + 1 + x = omega arith in
    subst (λ m. Fitting (gate_of (get_or kinds m 0) (get_or leasts m 0) (map input_of codes))) own
    (f (suc x) (omega arith) codes (c ∙ ap (take (get_or sizes x 0)) (drop-drop (sum (take x sizes)) n inputs)) q)) y h

chances_low : (l : List Event) → ((e : ℕ) → e < length l → (get_or l e no_event).chance ≤ billion) → (c : ℕ) → In c (map (λ (x : Event). x.chance) l) → c ≤ billion
chances_low [] f c h = absurd h
chances_low (x ∷ l) f c (inl p) = subst (λ w. w ≤ billion) (sym p) (f 0 (omega arith))
chances_low (x ∷ l) f c (inr h) = chances_low l (λ e k. f (suc e) (omega arith)) c h

-- ---- the whole

module _ (b : Book) (v : Lawful limits b) where
  inputs_are : all_inputs (tree_of b).gates ≡ map input_of b.inputs
  unfolding tree_of
  inputs_are = all_inputs_lem b.kinds b.leasts 0 b.sizes b.inputs v.all_inputs

  gates_fit : (y : Gate) → In y (tree_of b).gates → Fitting y
  unfolding tree_of
  gates_fit =
      each_gate b.kinds b.leasts 0 b.sizes b.inputs v.all_inputs
      (λ x l codes c q.
      let own : x ≡ 0 + x = omega arith in
      let r = v.sizes x l in
      let is = map input_of codes in
      let long : length (inputs_to (gate_of (get_or b.kinds x 0) (get_or b.leasts x 0) is)) ≡ get_or b.sizes x 0
      = ap length (gate_inputs (get_or b.kinds x 0) (get_or b.leasts x 0) is) ∙ map_length input_of codes ∙ q in
      let own_distinct : length (distinct_inputs is) ≡ distinct_at b.sizes b.inputs x
      = ap length (distinct_inputs_lem codes) ∙ map_length input_of (distinct_codes codes) ∙ ap (λ m. length (distinct_codes m)) c in
      subst (λ m. Fitting (gate_of (get_or b.kinds m 0) (get_or b.leasts m 0) is)) own
      (omega (arith, r.0), omega (arith, r.1), gate_fits (get_or b.kinds x 0) (get_or b.leasts x 0) is (v.kinds x l) (λ k. let s = v.leasts x l k in (s.0, omega (arith, s.1, own_distinct)))))

  chances_fit : (c : ℕ) → In c (tree_of b).chances → c ≤ billion
  unfolding tree_of
  chances_fit = chances_low b.events v.chances

  used : (code : ℕ) → among code b.inputs ≡ true → In (input_of code) (all_inputs (tree_of b).gates)
  used code h = subst (In (input_of code)) (sym inputs_are) (map_in input_of code b.inputs (among_in code b.inputs h))

  -- AN ACCEPTED TREE is a lawful tree
  pub lawful_tree : LawfulTree limits (tree_of b)
  lawful_tree =
      let n = tree_events b in
      let m = tree_gates b in
      lawful_of (record {
        within = record {
          few_events = omega (arith, v.few_events);
          chances = chances_fit;
          few_gates = omega (arith, v.few_gates);
          sizes = λ x h. ((gates_fit x h).0, (gates_fit x h).1);
          leasts = λ x h. (gates_fit x h).2;
          few_inputs = omega (arith, v.few_inputs, ap length inputs_are, map_length input_of b.inputs);
        };
        whole = record {
          some_event = omega (arith, v.some_event);
          some_gate = omega (arith, v.some_gate);
          below = subst (λ k. TreeBelow k (tree_of b).gates) (sym n) (tree_below v).0;
          lower = (tree_below v).1;
          events_used = λ e h.
              let low : e < length b.events = omega arith in
              let is : input_of e ≡ event e = rw (lt-ltb e gates_from (omega (arith, v.few_events))) refl in
              subst (λ i. In i (all_inputs (tree_of b).gates)) is (used e (v.events_used e low));
          gates_used = λ g h.
              let low : g + 1 < length b.sizes = omega arith in
              let back : gates_from + g - gates_from ≡ g = omega arith in
              let is : input_of (gates_from + g) ≡ gate g = rw (le-ltb (gates_from + g) gates_from (omega arith), lt-ltb (gates_from + g) failed_from (omega (arith, v.few_gates)), back) refl in
              subst (λ i. In i (all_inputs (tree_of b).gates)) is (used (gates_from + g) (v.gates_used g low));
        };
      })
