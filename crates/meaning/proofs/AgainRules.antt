-- A lawful tree's text says a tree within the limits: as many events, gates and inputs, the same chances, sizes and ks.
-- Assumes nothing.
use mathlib.Core.Path.{◌≡◌, refl, sym, ap, ap₂, ◌∙◌, subst}
use mathlib.Core.Logic.{inl, inr}
use mathlib.Core.Bool.{true, false, true≢false}
use mathlib.Core.List.{List, [], ◌∷◌, map}
use Prim.Native.Nat.{ℕ, ◌+◌, ◌<◌, ◌≤◌}
use native.Mathlib.Omega.{arith}
use lib.ListN.{get_or, length, length-append, length-map}
use Rattle.paper.specs.Limits.{limits, billion}
use Rattle.paper.specs.Lists.{In, Once, sum}
use Rattle.paper.specs.Bytes.{same}
use Rattle.paper.specs.Twins.{firsts}
use Rattle.paper.specs.Trees.{Input, Gate, and_g, or_g, least_g, distinct_inputs, Tree, events}
use Rattle.paper.specs.Equations.{dict_in, name_in, line_in, rights_of, numbers, number_of, inputs_in, chance_in}
use Rattle.paper.specs.Walks.{is_event}
use Rattle.paper.specs.Meaning.{event_names, gate_names, input_for, gate_by, gate_for, chance_for, tree_said}
use Rattle.paper.specs.Importing.{inputs_to, Says, all_right}
use Rattle.paper.specs.Exporting.{event_name, gate_name, input_name}
use Rattle.algebra.proofs.Lists.{map_in}
use Rattle.meaning.specs.Within.{LeastFits, all_inputs, Within}
use Rattle.meaning.specs.Exported.{gate_says, lines_said, root_in, tree_again}
use Rattle.meaning.proofs.Words.{number_of_name, at_in}
use Rattle.meaning.proofs.Defining.{Defines, defined_gate, line_names}
use Rattle.meaning.proofs.Naming.{gate_is, gates_once, event_is, events_once}
use Rattle.meaning.proofs.Whole.{inputs_by}
use Rattle.meaning.proofs.Limits.{within_unbroken}
use Rattle.meaning.proofs.Few.{once_few}
use Rattle.meaning.proofs.Decimals.{numeral, numeral_event, numeral_gate}
use Rattle.meaning.proofs.Sums.{once_map, size_of, sizes_part}
use Rattle.meaning.proofs.Rules.{Rules}
use Rattle.meaning.proofs.Retold.{no_gate}
use Rattle.meaning.proofs.Twins.{distinct_named, distinct_names}
use Rattle.meaning.proofs.AgainNames.{Kind, input_small, again_filled, again_rooted, gate_line_is, event_line_is, event_chance_is, number_kind}

-- a gate that was typed keeps its k
least_by : (g : ℕ) (x : Gate) (js : List Input) → LeastFits x → length (distinct_inputs js) ≡ length (distinct_inputs (inputs_to x)) → LeastFits (gate_by (gate_says g x) js)
least_by g (and_g []) js f e = tt
least_by g (and_g (i ∷ [])) js f e = tt
least_by g (and_g (i ∷ j ∷ is)) js f e = tt
least_by g (or_g []) js f e = tt
least_by g (or_g (i ∷ [])) js f e = tt
least_by g (or_g (i ∷ j ∷ is)) js f e = tt
least_by g (least_g k []) js f e = (f.0, subst (λ n. k ≤ n) (sym e) f.1)
least_by g (least_g k (i ∷ [])) js f e = tt
least_by g (least_g k (i ∷ j ∷ is)) js f e = (f.0, subst (λ n. k ≤ n) (sym e) f.1)

module _ (t : Tree) (w : Rules limits t) where
  abbrev root : ℕ
  root = root_in (lines_said t) t

  -- ---- the kinds of names by their lines

  pub event_kind : (x : ℕ) → In x (event_names (lines_said t) root) → (e : ℕ) × (e < events t) × (name_in (lines_said t) x ≡ event_name e)
  event_kind x h = go (event_is (again_rooted t w) x h)
    where
      pick : x < length (dict_in (lines_said t)) → is_event (inputs_in (lines_said t) x) ≡ true → Kind t w (name_in (lines_said t) x) → (e : ℕ) × (e < events t) × (name_in (lines_said t) x ≡ event_name e)
      pick l q (inl (g, b, p)) =
          absurd (true≢false (sym q ∙ defined_gate (lines_said t) x (again_filled t w) (subst Defines (sym (ap (λ v. line_in v (lines_said t)) p ∙ gate_line_is t w g b)) tt)))
      pick l q (inr k) = k

      go : (x < length (dict_in (lines_said t))) × (is_event (inputs_in (lines_said t) x) ≡ true) → (e : ℕ) × (e < events t) × (name_in (lines_said t) x ≡ event_name e)
      go (l, q) = pick l q (number_kind t w x l)

  pub no_inputs : (x e : ℕ) → name_in (lines_said t) x ≡ event_name e → is_event (inputs_in (lines_said t) x) ≡ true
  unfolding inputs_in
  no_inputs x e q = rw (q, event_line_is t w e) refl

  pub gate_kind : (x : ℕ) → In x (gate_names (lines_said t) root) → (g : ℕ) × (g < length t.gates) × (name_in (lines_said t) x ≡ gate_name g)
  gate_kind x h = go (gate_is (again_rooted t w) x h)
    where
      pick : is_event (inputs_in (lines_said t) x) ≡ false → Kind t w (name_in (lines_said t) x) → (g : ℕ) × (g < length t.gates) × (name_in (lines_said t) x ≡ gate_name g)
      pick q (inl k) = k
      pick q (inr (e, b, p)) = absurd (true≢false (sym (no_inputs x e p) ∙ q))

      go : (x < length (dict_in (lines_said t))) × (is_event (inputs_in (lines_said t) x) ≡ false) → (g : ℕ) × (g < length t.gates) × (name_in (lines_said t) x ≡ gate_name g)
      go (l, q) = pick q (number_kind t w x l)

  -- ---- as many events and gates

  abbrev numeral_in : ℕ → ℕ
  numeral_in x = numeral (name_in (lines_said t) x)

  -- two names of one kind with one numeral are one
  same_number : (x y : ℕ) → x < length (dict_in (lines_said t)) → y < length (dict_in (lines_said t)) → name_in (lines_said t) x ≡ name_in (lines_said t) y → x ≡ y
  same_number x y a b e = sym (number_of_name (lines_said t) x a) ∙ ap (λ v. number_of v (dict_in (lines_said t))) e ∙ number_of_name (lines_said t) y b

  event_numeral : (x : ℕ) (h : In x (event_names (lines_said t) root)) → (numeral_in x < events t) × (name_in (lines_said t) x ≡ event_name (numeral_in x))
  event_numeral x h =
      let (e, l, q) = event_kind x h in
      let p : numeral_in x ≡ e = ap numeral q ∙ numeral_event e (omega (arith, w.within.few_events)) in
      (omega arith, q ∙ ap event_name (sym p))

  gate_numeral : (x : ℕ) (h : In x (gate_names (lines_said t) root)) → (numeral_in x < length t.gates) × (name_in (lines_said t) x ≡ gate_name (numeral_in x))
  gate_numeral x h =
      let (g, l, q) = gate_kind x h in
      let p : numeral_in x ≡ g = ap numeral q ∙ numeral_gate g (omega (arith, w.within.few_gates)) in
      (omega arith, q ∙ ap gate_name (sym p))

  events_few : length (event_names (lines_said t) root) ≤ events t
  events_few =
      let o = once_map numeral_in (event_names (lines_said t) root) (events_once (again_rooted t w)) (λ x y a b e.
      same_number x y (event_is (again_rooted t w) x a).0 (event_is (again_rooted t w) y b).0 ((event_numeral x a).1 ∙ ap event_name e ∙ sym (event_numeral y b).1)) in
      let f = once_few (events t) (map numeral_in (event_names (lines_said t) root)) o (λ z h. low z (map_in numeral_in z (event_names (lines_said t) root) h)) in
      omega (arith, length-map (event_names (lines_said t) root) numeral_in)
    where
      low : (z : ℕ) → (x : ℕ) × In x (event_names (lines_said t) root) × (z ≡ numeral_in x) → z < events t
      low z (x, h, e) = let a = (event_numeral x h).0 in omega arith

  gates_apart : Once (map numeral_in (gate_names (lines_said t) root))
  gates_apart = once_map numeral_in (gate_names (lines_said t) root) (gates_once (again_rooted t w)) (λ x y a b e.
      same_number x y (gate_is (again_rooted t w) x a).0 (gate_is (again_rooted t w) y b).0 ((gate_numeral x a).1 ∙ ap gate_name e ∙ sym (gate_numeral y b).1))

  gates_low : (z : ℕ) → In z (map numeral_in (gate_names (lines_said t) root)) → z < length t.gates
  gates_low z h = low (map_in numeral_in z (gate_names (lines_said t) root) h)
    where
      low : (x : ℕ) × In x (gate_names (lines_said t) root) × (z ≡ numeral_in x) → z < length t.gates
      low (x, k, e) = let a = (gate_numeral x k).0 in omega arith

  gates_few : length (gate_names (lines_said t) root) ≤ length t.gates
  gates_few =
      let f = once_few (length t.gates) (map numeral_in (gate_names (lines_said t) root)) gates_apart gates_low in
      omega (arith, length-map (gate_names (lines_said t) root) numeral_in)

  -- ---- a gate has its inputs' number of inputs

  gate_size : (x : ℕ) → In x (gate_names (lines_said t) root) → length (inputs_in (lines_said t) x) ≡ size_of t.gates (numeral_in x)
  unfolding inputs_in size_of
  gate_size x h =
      let (l, q) = gate_numeral x h in
      length-map (rights_of (line_in (name_in (lines_said t) x) (lines_said t))) (λ v. number_of v (dict_in (lines_said t)))
      ∙ ap (λ m. length (rights_of m)) (ap (λ v. line_in v (lines_said t)) q ∙ gate_line_is t w (numeral_in x) l)
      ∙ length-map (inputs_to (get_or t.gates (numeral_in x) no_gate)) input_name

  gate_length : (x : ℕ) → length (inputs_to (gate_for (lines_said t) root x)) ≡ length (inputs_in (lines_said t) x)
  gate_length x = ap length (inputs_by (line_in (name_in (lines_said t) x) (lines_said t)) (map (input_for (lines_said t) root) (inputs_in (lines_said t) x))) ∙ length-map (inputs_in (lines_said t) x) (input_for (lines_said t) root)

  size_fits : (x : ℕ) → In x (gate_names (lines_said t) root)
      → (1 ≤ length (inputs_to (gate_for (lines_said t) root x))) × (length (inputs_to (gate_for (lines_said t) root x)) ≤ limits.inputs)
  unfolding size_of
  size_fits x h =
      let s = w.within.sizes (get_or t.gates (numeral_in x) no_gate) (at_in no_gate t.gates (numeral_in x) (gate_numeral x h).0) in
      let a = gate_length x in
      let b = gate_size x h in
      (omega (arith, s.0), omega (arith, s.1))

  -- and as many distinct ones
  gate_distinct : (x : ℕ) → In x (gate_names (lines_said t) root)
      → length (distinct_inputs (map (input_for (lines_said t) root) (inputs_in (lines_said t) x))) ≡ length (distinct_inputs (inputs_to (get_or t.gates (numeral_in x) no_gate)))
  unfolding inputs_in
  gate_distinct x h =
      let (l, q) = gate_numeral x h in
      let is = inputs_to (get_or t.gates (numeral_in x) no_gate) in
      let ys = rights_of (line_in (name_in (lines_said t) x) (lines_said t)) in
      let e : ys ≡ map input_name is = ap rights_of (ap (λ v. line_in v (lines_said t)) q ∙ gate_line_is t w (numeral_in x) l) in
      ap length (distinct_named (again_rooted t w) ys (λ y k. line_names (name_in (lines_said t) x) y (lines_said t) k))
      ∙ length-map (numbers (dict_in (lines_said t)) (firsts same ys)) (input_for (lines_said t) root) ∙ length-map (firsts same ys) (λ v. number_of v (dict_in (lines_said t)))
      ∙ ap (λ zs. length (firsts same zs)) e ∙ ap length (distinct_names is (input_small t w (numeral_in x) l)) ∙ length-map (distinct_inputs is) input_name

  least_fits : (x : ℕ) → In x (gate_names (lines_said t) root) → LeastFits (gate_for (lines_said t) root x)
  least_fits x h =
      let (l, q) = gate_numeral x h in
      let e : line_in (name_in (lines_said t) x) (lines_said t) ≡ gate_says (numeral_in x) (get_or t.gates (numeral_in x) no_gate) = ap (λ v. line_in v (lines_said t)) q ∙ gate_line_is t w (numeral_in x) l in
      subst (λ m. LeastFits (gate_by m (map (input_for (lines_said t) root) (inputs_in (lines_said t) x)))) (sym e)
      (least_by (numeral_in x) (get_or t.gates (numeral_in x) no_gate) (map (input_for (lines_said t) root) (inputs_in (lines_said t) x))
      (w.within.leasts (get_or t.gates (numeral_in x) no_gate) (at_in no_gate t.gates (numeral_in x) l)) (gate_distinct x h))

  all_sizes : (l : List ℕ) → ((x : ℕ) → In x l → In x (gate_names (lines_said t) root))
      → length (all_inputs (map (gate_for (lines_said t) root) l)) ≡ sum (map (size_of t.gates) (map numeral_in l))
  all_sizes [] h = refl
  all_sizes (x ∷ l) h =
      length-append (inputs_to (gate_for (lines_said t) root x)) (all_inputs (map (gate_for (lines_said t) root) l))
      ∙ ap₂ ◌+◌ (gate_length x ∙ gate_size x (h x (inl refl))) (all_sizes l (λ y k. h y (inr k)))

  chance_fits : (c : ℕ) → In c (map (chance_for (lines_said t)) (event_names (lines_said t) root)) → c ≤ billion
  chance_fits c h = go (map_in (chance_for (lines_said t)) c (event_names (lines_said t) root) h)
    where
      go : (x : ℕ) × In x (event_names (lines_said t) root) × (c ≡ chance_for (lines_said t) x) → c ≤ billion
      go (x, k, q) =
          let (e, l, p) = event_kind x k in
          subst (λ z. z ≤ billion) (sym (q ∙ ap (λ v. chance_in v (lines_said t)) p ∙ event_chance_is t w e l)) (w.within.chances (get_or t.chances e 0) (at_in 0 t.chances e l))

  pub again_within : Within limits (tree_again (lines_said t) t)
  unfolding tree_said
  again_within = record {
    few_events = omega (arith, events_few, length-map (event_names (lines_said t) root) (chance_for (lines_said t)), w.within.few_events);
    chances = chance_fits;
    few_gates = omega (arith, gates_few, length-map (gate_names (lines_said t) root) (gate_for (lines_said t) root), w.within.few_gates);
    sizes = λ x h. sizes x (map_in (gate_for (lines_said t) root) x (gate_names (lines_said t) root) h);
    leasts = λ x h. leasts x (map_in (gate_for (lines_said t) root) x (gate_names (lines_said t) root) h);
    few_inputs = omega (arith, all_sizes (gate_names (lines_said t) root) (λ x h. h), sizes_part t.gates (map numeral_in (gate_names (lines_said t) root)) gates_apart gates_low, w.within.few_inputs);
  }
    where
      sizes : (x : Gate) → (y : ℕ) × In y (gate_names (lines_said t) root) × (x ≡ gate_for (lines_said t) root y) → (1 ≤ length (inputs_to x)) × (length (inputs_to x) ≤ limits.inputs)
      sizes x (y, h, e) = subst (λ z. (1 ≤ length (inputs_to z)) × (length (inputs_to z) ≤ limits.inputs)) (sym e) (size_fits y h)

      leasts : (x : Gate) → (y : ℕ) × In y (gate_names (lines_said t) root) × (x ≡ gate_for (lines_said t) root y) → LeastFits x
      leasts x (y, h, e) = subst LeastFits (sym e) (least_fits y h)

  pub again_done : Says (lines_said t) 0 0
  again_done = all_right root (again_rooted t w) (within_unbroken limits (tree_again (lines_said t) t) again_within)
