-- The names of a lawful tree's text: every name is a gate's or an event's, inputs have a lower rank, and the last gate is the one root.
-- Assumes nothing.
use mathlib.Core.Path.{◌≡◌, sym, ap, ◌∙◌, subst}
use mathlib.Core.Logic.{◌⊎◌, inl, inr}
use mathlib.Core.List.{List, [], ◌∷◌, ◌++◌}
use Prim.Native.Nat.{ℕ, zero, suc, ◌+◌, ◌-◌, ◌<◌, ◌≤◌}
use native.Mathlib.Decide.{ℕ_discrete}
use native.Mathlib.Omega.{arith}
use lib.ListN.{get_or, length}
use Rattle.paper.specs.Limits.{limits}
use Rattle.paper.specs.Lists.{In}
use Rattle.paper.specs.Trees.{Input, event, gate, forced, Gate, and_g, or_g, least_g, Tree, events, InputBelow, InputsBelow, GateBelow, TreeBelow}
use Rattle.paper.specs.Grammar.{bad}
use Rattle.paper.specs.Texts.{Placed}
use Rattle.paper.specs.Equations.{dict_in, name_in, names_in, line_in, rights_of, number_of, inputs_in, chance_in, defined_in, wrong_from, wrong_in, twice_in}
use Rattle.paper.specs.Walks.{Steps}
use Rattle.paper.specs.Importing.{inputs_to, Rooted}
use Rattle.paper.specs.Exporting.{event_name, gate_name, input_name, gate_lines}
use Rattle.records.specs.Trees.{InputLower, InputsLower, GateLower, TreeLower}
use Rattle.algebra.proofs.Lists.{in_append, in_map, map_in}
use Rattle.meaning.specs.Said.{AllFilled}
use Rattle.meaning.specs.Within.{all_inputs}
use Rattle.meaning.specs.Exported.{gate_says, gates_said, chances_said, lines_said, root_in}
use Rattle.meaning.proofs.Words.{in_dict, dict_in_lem, number_low, at_in, name_of_number, number_of_name}
use Rattle.meaning.proofs.Defining.{line_names, input_of}
use Rattle.meaning.proofs.Decimals.{small, rank, rank_gate, rank_event}
use Rattle.meaning.proofs.Rules.{Rules}
use Rattle.meaning.proofs.Twins.{Small}
use Rattle.meaning.proofs.Retold.{no_gate, line_gate, line_event, line_chances, defined_event, defined_chances, names_gate, names_input, NameOf, names_of_lem, chances_nameless, twice_none, wrong_gates, wrong_chances, chance_gates, chance_at, filled_said}

-- ---- the inputs of all gates

below_member : (n : ℕ) (is : List Input) → InputsBelow n is → (i : Input) → In i is → InputBelow n i
below_member n [] b i h = absurd h
below_member n (j ∷ is) b i (inl q) = subst (InputBelow n) (sym q) b.0
below_member n (j ∷ is) b i (inr h) = below_member n is b.1 i h

lower_member : (g : ℕ) (is : List Input) → InputsLower g is → (i : Input) → In i is → InputLower g i
lower_member g [] b i h = absurd h
lower_member g (j ∷ is) b i (inl q) = subst (InputLower g) (sym q) b.0
lower_member g (j ∷ is) b i (inr h) = lower_member g is b.1 i h

gate_below : (n : ℕ) (x : Gate) → GateBelow n x → InputsBelow n (inputs_to x)
gate_below n (and_g is) b = b
gate_below n (or_g is) b = b
gate_below n (least_g k is) b = b

gate_lower : (g : ℕ) (x : Gate) → GateLower g x → InputsLower g (inputs_to x)
gate_lower g (and_g is) b = b
gate_lower g (or_g is) b = b
gate_lower g (least_g k is) b = b

-- gate g's inputs
pub below_at : (n : ℕ) (xs : List Gate) → TreeBelow n xs → (g : ℕ) (i : Input) → In i (inputs_to (get_or xs g no_gate)) → InputBelow n i
below_at n [] b g i h = absurd h
below_at n (x ∷ xs) b zero i h = below_member n (inputs_to x) (gate_below n x b.0) i h
below_at n (x ∷ xs) b (suc g) i h = below_at n xs b.1 g i h

pub lower_at : (m : ℕ) (xs : List Gate) → TreeLower m xs → (g : ℕ) (i : Input) → In i (inputs_to (get_or xs g no_gate)) → InputLower (m + g) i
lower_at m [] b g i h = absurd h
lower_at m (x ∷ xs) b zero i h = let q : m ≡ m + 0 = omega arith in subst (λ z. InputLower z i) q (lower_member m (inputs_to x) (gate_lower m x b.0) i h)
lower_at m (x ∷ xs) b (suc g) i h = let q : m + 1 + g ≡ m + suc g = omega arith in subst (λ z. InputLower z i) q (lower_at (m + 1) xs b.1 g i h)

-- the gate that has it
pub used_at : (xs : List Gate) (i : Input) → In i (all_inputs xs) → (g : ℕ) × (g < length xs) × In i (inputs_to (get_or xs g no_gate))
used_at [] i h = absurd h
used_at (x ∷ xs) i h = go (in_append i (inputs_to x) (all_inputs xs) h) (used_at xs i)
  where
    next : (g : ℕ) × (g < length xs) × In i (inputs_to (get_or xs g no_gate)) → (g : ℕ) × (g < suc (length xs)) × In i (inputs_to (get_or (x ∷ xs) g no_gate))
    next (g, l, k) = (suc g, omega arith, k)

    go : In i (inputs_to x) ⊎ In i (all_inputs xs) → (In i (all_inputs xs) → (g : ℕ) × (g < length xs) × In i (inputs_to (get_or xs g no_gate)))
        → (g : ℕ) × (g < suc (length xs)) × In i (inputs_to (get_or (x ∷ xs) g no_gate))
    go (inl k) r = (0, omega arith, k)
    go (inr k) r = next (r k)

module _ (t : Tree) (w : Rules limits t) where
  abbrev N : ℕ
  N = length t.gates

  few_gates : 0 + N ≤ small
  few_gates = omega (arith, w.within.few_gates)

  few_events : 0 + events t ≤ small
  few_events = omega (arith, w.within.few_events)

  -- every number can be typed
  pub input_small : (g : ℕ) → g < N → (i : Input) → In i (inputs_to (get_or t.gates g no_gate)) → Small i
  input_small g l i h = go i (below_at (events t) t.gates w.whole.below g i h) (lower_at 0 t.gates w.whole.lower g i h)
    where
      go : (i : Input) → InputBelow (events t) i → InputLower (0 + g) i → Small i
      go (event e) b c = omega (arith, few_events)
      go (gate j) b c = omega (arith, few_gates)
      go (forced e x) b c = absurd c

  -- ---- the lines of names

  pub again_filled : AllFilled (lines_said t)
  unfolding lines_said
  again_filled = filled_said 0 0 t.gates (length (gate_lines 0 t.gates)) 0 t.chances (λ x h. (w.within.sizes x h).0)

  pub gate_line_is : (g : ℕ) → g < N → line_in (gate_name g) (lines_said t) ≡ gate_says g (get_or t.gates g no_gate)
  unfolding lines_said
  gate_line_is g h =
      let q : 0 + g ≡ g = omega arith in
      subst (λ z. line_in (gate_name z) (gates_said 0 0 t.gates ++ chances_said (length (gate_lines 0 t.gates)) 0 t.chances) ≡ gate_says z (get_or t.gates g no_gate)) q
      (line_gate 0 0 g t.gates (chances_said (length (gate_lines 0 t.gates)) 0 t.chances) h few_gates)

  pub event_line_is : (e : ℕ) → line_in (event_name e) (lines_said t) ≡ bad
  unfolding lines_said
  event_line_is e = line_event 0 0 e t.gates (chances_said (length (gate_lines 0 t.gates)) 0 t.chances) few_gates ∙ line_chances (event_name e) (length (gate_lines 0 t.gates)) 0 t.chances

  pub event_chance_is : (e : ℕ) → e < events t → chance_in (event_name e) (lines_said t) ≡ get_or t.chances e 0
  unfolding lines_said
  event_chance_is e h =
      let q : 0 + e ≡ e = omega arith in
      chance_gates (event_name e) 0 0 t.gates (chances_said (length (gate_lines 0 t.gates)) 0 t.chances)
      ∙ subst (λ z. chance_in (event_name z) (chances_said (length (gate_lines 0 t.gates)) 0 t.chances) ≡ get_or t.chances e 0) q (chance_at (length (gate_lines 0 t.gates)) 0 e t.chances h few_events)

  -- ---- the names

  pub gate_named : (g : ℕ) → g < N → In (gate_name g) (names_in (lines_said t))
  unfolding lines_said
  gate_named g h =
      let q : 0 + g ≡ g = omega arith in
      subst (λ z. In (gate_name z) (names_in (gates_said 0 0 t.gates ++ chances_said (length (gate_lines 0 t.gates)) 0 t.chances))) q
      (names_gate 0 0 g t.gates (chances_said (length (gate_lines 0 t.gates)) 0 t.chances) h)

  pub event_named : (e : ℕ) → e < events t → In (event_name e) (names_in (lines_said t))
  unfolding lines_said
  event_named e h = names_input 0 0 (event e) t.gates (chances_said (length (gate_lines 0 t.gates)) 0 t.chances) (w.whole.events_used e h)

  -- a name is a gate's or an event's
  abbrev pub Kind : List ℕ → Type 0
  Kind v = ((g : ℕ) × (g < N) × (v ≡ gate_name g)) ⊎ ((e : ℕ) × (e < events t) × (v ≡ event_name e))

  kind_input : (v : List ℕ) (i : Input) → In i (all_inputs t.gates) → v ≡ input_name i → Kind v
  kind_input v (event e) h q = let (g, l, k) = used_at t.gates (event e) h in inr (e, below_at (events t) t.gates w.whole.below g (event e) k, q)
  kind_input v (gate j) h q =
      let (g, l, k) = used_at t.gates (gate j) h in
      let b : j < 0 + g = lower_at 0 t.gates w.whole.lower g (gate j) k in
      inl (j, omega arith, q)
  kind_input v (forced e x) h q = let (g, l, k) = used_at t.gates (forced e x) h in absurd (lower_at 0 t.gates w.whole.lower g (forced e x) k)

  pub name_kind : (v : List ℕ) → In v (names_in (lines_said t)) → Kind v
  unfolding lines_said
  name_kind v h = go (names_of_lem 0 0 v t.gates (chances_said (length (gate_lines 0 t.gates)) 0 t.chances) h)
    where
      go : NameOf 0 t.gates (chances_said (length (gate_lines 0 t.gates)) 0 t.chances) v → Kind v
      go (inl (i, l, q)) = let z : 0 + i ≡ i = omega arith in inl (i, l, q ∙ ap gate_name z)
      go (inr (inl (i, k, q))) = kind_input v i k q
      go (inr (inr k)) = absurd (chances_nameless v (length (gate_lines 0 t.gates)) 0 t.chances k)

  pub number_kind : (x : ℕ) → x < length (dict_in (lines_said t)) → Kind (name_in (lines_said t) x)
  number_kind x h = name_kind (name_in (lines_said t) x) (dict_in_lem (name_in (lines_said t) x) (lines_said t) (at_in [] (dict_in (lines_said t)) x h))

  -- ---- right names have a lower rank

  rank_input : (g : ℕ) (i : Input) → g < N → In i (inputs_to (get_or t.gates g no_gate)) → rank (input_name i) < rank (gate_name g)
  rank_input g (event e) l h = let a = rank_event e in let b = rank_gate g (omega (arith, few_gates)) in omega arith
  rank_input g (forced e x) l h = absurd (lower_at 0 t.gates w.whole.lower g (forced e x) h)
  rank_input g (gate j) l h =
      let c : j < 0 + g = lower_at 0 t.gates w.whole.lower g (gate j) h in
      let a = rank_gate j (omega (arith, few_gates)) in
      let b = rank_gate g (omega (arith, few_gates)) in
      omega arith

  rank_right : (v u : List ℕ) → Kind v → In u (rights_of (line_in v (lines_said t))) → rank u < rank v
  rank_right v u (inl (g, l, q)) h = go (map_in input_name u (inputs_to (get_or t.gates g no_gate)) (subst (λ m. In u (rights_of m)) (ap (λ z. line_in z (lines_said t)) q ∙ gate_line_is g l) h))
    where
      go : (i : Input) × In i (inputs_to (get_or t.gates g no_gate)) × (u ≡ input_name i) → rank u < rank v
      go (i, k, p) = let a = rank_input g i l k in let b = ap rank p in let c = ap rank q in omega arith
  rank_right v u (inr (e, l, q)) h = absurd (subst (λ m. In u (rights_of m)) (ap (λ z. line_in z (lines_said t)) q ∙ event_line_is e) h)

  rank_falls : (x y : ℕ) → x < length (dict_in (lines_said t)) → In y (inputs_in (lines_said t) x)
      → (y < length (dict_in (lines_said t))) × (rank (name_in (lines_said t) y) < rank (name_in (lines_said t) x))
  unfolding inputs_in
  rank_falls x y l h = go (map_in (λ v. number_of v (dict_in (lines_said t))) y (rights_of (line_in (name_in (lines_said t) x) (lines_said t))) h)
    where
      go : (v : List ℕ) × In v (rights_of (line_in (name_in (lines_said t) x) (lines_said t))) × (y ≡ number_of v (dict_in (lines_said t)))
          → (y < length (dict_in (lines_said t))) × (rank (name_in (lines_said t) y) < rank (name_in (lines_said t) x))
      go (v, k, e) =
          let named = line_names (name_in (lines_said t) x) v (lines_said t) k in
          let a = rank_right (name_in (lines_said t) x) v (number_kind x l) k in
          let b : rank (name_in (lines_said t) y) ≡ rank v = ap rank (ap (name_in (lines_said t)) e ∙ name_of_number v (lines_said t) named) in
          let c = number_low v (dict_in (lines_said t)) (in_dict v (lines_said t) named) in
          (omega arith, omega arith)

  steps_fall : (via : List ℕ) (x z : ℕ) → x < length (dict_in (lines_said t)) → Steps (inputs_in (lines_said t)) x via z → rank (name_in (lines_said t) z) < rank (name_in (lines_said t) x)
  steps_fall [] x z l s = (rank_falls x z l s).1
  steps_fall (y ∷ via) x z l s =
      let (a, b) = rank_falls x y l s.0 in
      let c = steps_fall via y z a s.1 in
      omega arith

  -- ---- the one root

  root_name : name_in (lines_said t) (root_in (lines_said t) t) ≡ gate_name (N - 1)
  root_name = name_of_number (gate_name (N - 1)) (lines_said t) (gate_named (N - 1) (omega (arith, w.whole.some_gate)))

  rank_most : (x : ℕ) → x < length (dict_in (lines_said t)) → rank (name_in (lines_said t) x) ≤ N
  rank_most x h = go (number_kind x h)
    where
      go : Kind (name_in (lines_said t) x) → rank (name_in (lines_said t) x) ≤ N
      go (inl (g, l, q)) = let a = ap rank q in let b = rank_gate g (omega (arith, few_gates)) in omega arith
      go (inr (e, l, q)) = let a = ap rank q in let b = rank_event e in omega arith

  -- an input of a gate is one by its name's number
  under : (z : ℕ) (i : Input) → z < length (dict_in (lines_said t)) → name_in (lines_said t) z ≡ input_name i → In i (all_inputs t.gates)
      → (x : ℕ) × (x < length (dict_in (lines_said t))) × In z (inputs_in (lines_said t) x)
  under z i l q h = go (used_at t.gates i h)
    where
      go : (g : ℕ) × (g < N) × In i (inputs_to (get_or t.gates g no_gate)) → (x : ℕ) × (x < length (dict_in (lines_said t))) × In z (inputs_in (lines_said t) x)
      go (g, b, k) =
          let named = gate_named g b in
          let right : In (input_name i) (rights_of (line_in (gate_name g) (lines_said t))) = subst (λ m. In (input_name i) (rights_of m)) (sym (gate_line_is g b)) (in_map input_name i (inputs_to (get_or t.gates g no_gate)) k) in (
            number_of (gate_name g) (dict_in (lines_said t)),
            number_low (gate_name g) (dict_in (lines_said t)) (in_dict (gate_name g) (lines_said t) named),
            subst (λ y. In y (inputs_in (lines_said t) (number_of (gate_name g) (dict_in (lines_said t))))) (ap (λ v. number_of v (dict_in (lines_said t))) (sym q) ∙ number_of_name (lines_said t) z l)
                (input_of (lines_said t) (gate_name g) (input_name i) named right),
          )

  others : (z : ℕ) → z < length (dict_in (lines_said t))
      → (z ≡ root_in (lines_said t) t) ⊎ ((x : ℕ) × (x < length (dict_in (lines_said t))) × In z (inputs_in (lines_said t) x))
  others z h = go (number_kind z h)
    where
      gates : (g : ℕ) → g < N → name_in (lines_said t) z ≡ gate_name g → Dec (g ≡ N - 1)
          → (z ≡ root_in (lines_said t) t) ⊎ ((x : ℕ) × (x < length (dict_in (lines_said t))) × In z (inputs_in (lines_said t) x))
      gates g l q (yes e) = inl (sym (number_of_name (lines_said t) z h) ∙ ap (λ v. number_of v (dict_in (lines_said t))) (q ∙ ap gate_name e))
      gates g l q (no n) = inr (under z (gate g) h q (w.whole.gates_used g (omega arith)))

      go : Kind (name_in (lines_said t) z) → (z ≡ root_in (lines_said t) t) ⊎ ((x : ℕ) × (x < length (dict_in (lines_said t))) × In z (inputs_in (lines_said t) x))
      go (inl (g, l, q)) = gates g l q (ℕ_discrete g (N - 1))
      go (inr (e, l, q)) = inr (under z (event e) h q (w.whole.events_used e l))

  no_twice : twice_in (lines_said t) ≡ 0
  unfolding lines_said twice_in
  no_twice = twice_none [] 0 0 t.gates (length (gate_lines 0 t.gates)) 0 t.chances (λ v k. absurd k) few_gates

  undefined : (e : ℕ) → defined_in (event_name e) (lines_said t) ≡ 0
  unfolding lines_said
  undefined e = defined_event 0 0 e t.gates (chances_said (length (gate_lines 0 t.gates)) 0 t.chances) few_gates ∙ defined_chances (event_name e) (length (gate_lines 0 t.gates)) 0 t.chances

  no_wrong_in : (all : List Placed) → ((j : ℕ) → j < 0 + events t → In (event_name j) (dict_in all)) → ((j : ℕ) → defined_in (event_name j) all ≡ 0)
      → wrong_from all [] (gates_said 0 0 t.gates ++ chances_said (length (gate_lines 0 t.gates)) 0 t.chances) ≡ 0
  no_wrong_in all a b =
      wrong_gates all [] 0 0 t.gates (chances_said (length (gate_lines 0 t.gates)) 0 t.chances)
      ∙ wrong_chances all [] (length (gate_lines 0 t.gates)) 0 t.chances (λ v k. absurd k) few_events a b

  no_wrong : wrong_in (lines_said t) ≡ 0
  unfolding lines_said wrong_in
  no_wrong = no_wrong_in (lines_said t) (λ j l. in_dict (event_name j) (lines_said t) (event_named j (omega arith))) undefined

  pub again_rooted : Rooted (lines_said t) (root_in (lines_said t) t)
  again_rooted = record {
    lines = record { right = no_wrong; once = no_twice };
    ringless = λ b. let f = steps_fall b.back.via b.name b.name b.low b.back.steps in omega arith;
    one = record {
      low = number_low (gate_name (N - 1)) (dict_in (lines_said t)) (in_dict (gate_name (N - 1)) (lines_said t) (gate_named (N - 1) (omega (arith, w.whole.some_gate))));
      top = λ x l h. over x l (rank_falls x (root_in (lines_said t) t) l h).1;
      others = others;
    };
  }
    where
      over : (x : ℕ) → x < length (dict_in (lines_said t)) → rank (name_in (lines_said t) (root_in (lines_said t) t)) < rank (name_in (lines_said t) x) → ⊥
      over x l h =
          let a = rank_most x l in
          let b = ap rank root_name in
          let c = rank_gate (N - 1) (omega (arith, few_gates)) in
          omega (arith, w.whole.some_gate)
