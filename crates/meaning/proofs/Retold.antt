-- The lines of a tree's text: the line of each gate, no line for an event, the names, the chances; no left name twice.
-- Assumes nothing.
use mathlib.Core.Path.{◌≡◌, refl, ap, ◌∙◌, subst}
use mathlib.Core.Logic.{◌⊎◌, inl, inr}
use mathlib.Core.Bool.{false}
use mathlib.Core.List.{List, [], ◌∷◌, ◌++◌, map}
use Prim.Native.Nat.{ℕ, zero, suc, ◌+◌, ◌<◌, ◌≤◌}
use native.Mathlib.Omega.{arith}
use lib.ListN.{get_or, length}
use Rattle.paper.specs.Lists.{In}
use Rattle.paper.specs.Trees.{Input, Gate, or_g}
use Rattle.paper.specs.Grammar.{bad, equation}
use Rattle.paper.specs.Texts.{Placed}
use Rattle.paper.specs.Equations.{has, names_of, names_in, line_in, defined_in, chance_in, dict_in, twice_from, wrong_from}
use Rattle.paper.specs.Importing.{inputs_to}
use Rattle.paper.specs.Spelling.{chance_line}
use Rattle.paper.specs.Exporting.{decimal, event_name, gate_name, input_name, gate_line}
use Rattle.algebra.proofs.Lists.{in_left, in_right, in_append, in_map, map_in}
use Rattle.meaning.specs.Said.{Filled, AllFilled}
use Rattle.meaning.specs.Within.{all_inputs}
use Rattle.meaning.specs.Exported.{connective_for, gate_says, gates_said, chances_said}
use Rattle.meaning.proofs.Words.{same_refl, not_same, in_has, not_has}
use Rattle.meaning.proofs.Decimals.{small, gate_inj, event_inj, event_no_gate}

abbrev pub no_gate : Gate
no_gate = or_g []

-- ---- the line of a name

pub line_gate : (at h i : ℕ) (xs : List Gate) (rest : List Placed) → i < length xs → h + length xs ≤ small
    → line_in (gate_name (h + i)) (gates_said at h xs ++ rest) ≡ gate_says (h + i) (get_or xs i no_gate)
line_gate at h i [] rest l s = let b : ⊥ = omega arith in absurd b
line_gate at h zero (x ∷ xs) rest l s = let q : h + 0 ≡ h = omega arith in rw (q, in_has (gate_name h) (gate_name h ∷ []) (inl refl)) refl
line_gate at h (suc i) (x ∷ xs) rest l s =
    let q : suc h + i ≡ h + suc i = omega arith in
    rw (not_has (gate_name (h + suc i)) (gate_name h ∷ []) other)
    (subst (λ g. line_in (gate_name g) (gates_said (at + length (gate_line h x)) (suc h) xs ++ rest) ≡ gate_says g (get_or xs i no_gate)) q
    (line_gate (at + length (gate_line h x)) (suc h) i xs rest (omega arith) (omega arith)))
  where
    other : In (gate_name (h + suc i)) (gate_name h ∷ []) → ⊥
    other (inl e) = let z = gate_inj (h + suc i) h (omega arith) (omega arith) e in omega arith
    other (inr k) = k

no_left : (e h : ℕ) → h < small → has (event_name e) (gate_name h ∷ []) ≡ false
no_left e h l = not_has (event_name e) (gate_name h ∷ []) other
  where
    other : In (event_name e) (gate_name h ∷ []) → ⊥
    other (inl q) = event_no_gate e h l q
    other (inr k) = k

pub line_event : (at h e : ℕ) (xs : List Gate) (rest : List Placed) → h + length xs ≤ small → line_in (event_name e) (gates_said at h xs ++ rest) ≡ line_in (event_name e) rest
line_event at h e [] rest s = refl
line_event at h e (x ∷ xs) rest s =
    let l : h < small = omega arith in
    rw (no_left e h l) (line_event (at + length (gate_line h x)) (suc h) e xs rest (omega arith))

pub line_chances : (w : List ℕ) (at e : ℕ) (cs : List ℕ) → line_in w (chances_said at e cs) ≡ bad
unfolding has
line_chances w at e [] = refl
line_chances w at e (c ∷ cs) = line_chances w (at + length (chance_line (event_name e) (decimal c)) + 1) (suc e) cs

pub defined_event : (at h e : ℕ) (xs : List Gate) (rest : List Placed) → h + length xs ≤ small → defined_in (event_name e) (gates_said at h xs ++ rest) ≡ defined_in (event_name e) rest
defined_event at h e [] rest s = refl
defined_event at h e (x ∷ xs) rest s =
    let l : h < small = omega arith in
    rw (no_left e h l) (defined_event (at + length (gate_line h x)) (suc h) e xs rest (omega arith))

pub defined_chances : (w : List ℕ) (at e : ℕ) (cs : List ℕ) → defined_in w (chances_said at e cs) ≡ 0
unfolding has
defined_chances w at e [] = refl
defined_chances w at e (c ∷ cs) = defined_chances w (at + length (chance_line (event_name e) (decimal c)) + 1) (suc e) cs

-- ---- the names

pub names_gate : (at h i : ℕ) (xs : List Gate) (rest : List Placed) → i < length xs → In (gate_name (h + i)) (names_in (gates_said at h xs ++ rest))
names_gate at h i [] rest l = let b : ⊥ = omega arith in absurd b
names_gate at h zero (x ∷ xs) rest l = let q : h + 0 ≡ h = omega arith in inl (ap gate_name q)
names_gate at h (suc i) (x ∷ xs) rest l =
    let q : suc h + i ≡ h + suc i = omega arith in
    in_right (gate_name (h + suc i)) (names_of (gate_says h x)) (names_in (gates_said (at + length (gate_line h x)) (suc h) xs ++ rest))
    (subst (λ g. In (gate_name g) (names_in (gates_said (at + length (gate_line h x)) (suc h) xs ++ rest))) q (names_gate (at + length (gate_line h x)) (suc h) i xs rest (omega arith)))

pub names_input : (at h : ℕ) (i : Input) (xs : List Gate) (rest : List Placed) → In i (all_inputs xs) → In (input_name i) (names_in (gates_said at h xs ++ rest))
names_input at h i [] rest k = absurd k
names_input at h i (x ∷ xs) rest k = go (in_append i (inputs_to x) (all_inputs xs) k) (names_input (at + length (gate_line h x)) (suc h) i xs rest)
  where
    go : In i (inputs_to x) ⊎ In i (all_inputs xs) → (In i (all_inputs xs) → In (input_name i) (names_in (gates_said (at + length (gate_line h x)) (suc h) xs ++ rest)))
        → In (input_name i) (gate_name h ∷ map input_name (inputs_to x) ++ names_in (gates_said (at + length (gate_line h x)) (suc h) xs ++ rest))
    go (inl q) r = inr (in_left (input_name i) (map input_name (inputs_to x)) (names_in (gates_said (at + length (gate_line h x)) (suc h) xs ++ rest)) (in_map input_name i (inputs_to x) q))
    go (inr q) r = inr (in_right (input_name i) (map input_name (inputs_to x)) (names_in (gates_said (at + length (gate_line h x)) (suc h) xs ++ rest)) (r q))

-- a name is a gate's, an input's, or one of the rest
abbrev pub NameOf : ℕ → List Gate → List Placed → List ℕ → Type 0
NameOf h xs rest w = ((i : ℕ) × (i < length xs) × (w ≡ gate_name (h + i))) ⊎ (((i : Input) × In i (all_inputs xs) × (w ≡ input_name i)) ⊎ In w (names_in rest))

pub names_of_lem : (at h : ℕ) (w : List ℕ) (xs : List Gate) (rest : List Placed) → In w (names_in (gates_said at h xs ++ rest)) → NameOf h xs rest w
names_of_lem at h w [] rest k = inr (inr k)
names_of_lem at h w (x ∷ xs) rest (inl e) = let q : h ≡ h + 0 = omega arith in inl (0, omega arith, e ∙ ap gate_name q)
names_of_lem at h w (x ∷ xs) rest (inr k) = go (in_append w (map input_name (inputs_to x)) (names_in (gates_said (at + length (gate_line h x)) (suc h) xs ++ rest)) k) (names_of_lem (at + length (gate_line h x)) (suc h) w xs rest)
  where
    later : NameOf (suc h) xs rest w → NameOf h (x ∷ xs) rest w
    later (inl (i, l, e)) = let q : suc h + i ≡ h + suc i = omega arith in inl (suc i, omega arith, e ∙ ap gate_name q)
    later (inr (inl (i, m, e))) = inr (inl (i, in_right i (inputs_to x) (all_inputs xs) m, e))
    later (inr (inr m)) = inr (inr m)

    here : (i : Input) × In i (inputs_to x) × (w ≡ input_name i) → NameOf h (x ∷ xs) rest w
    here (i, m, e) = inr (inl (i, in_left i (inputs_to x) (all_inputs xs) m, e))

    go : In w (map input_name (inputs_to x)) ⊎ In w (names_in (gates_said (at + length (gate_line h x)) (suc h) xs ++ rest))
        → (In w (names_in (gates_said (at + length (gate_line h x)) (suc h) xs ++ rest)) → NameOf (suc h) xs rest w) → NameOf h (x ∷ xs) rest w
    go (inl q) r = here (map_in input_name w (inputs_to x) q)
    go (inr q) r = later (r q)

pub chances_nameless : (w : List ℕ) (at e : ℕ) (cs : List ℕ) → In w (names_in (chances_said at e cs)) → ⊥
chances_nameless w at e [] h = h
chances_nameless w at e (c ∷ cs) h = chances_nameless w (at + length (chance_line (event_name e) (decimal c)) + 1) (suc e) cs h

-- ---- no left name twice

twice_chances : (seen : List (List ℕ)) (at e : ℕ) (cs : List ℕ) → twice_from seen (chances_said at e cs) ≡ 0
twice_chances seen at e [] = refl
twice_chances seen at e (c ∷ cs) = twice_chances seen (at + length (chance_line (event_name e) (decimal c)) + 1) (suc e) cs

pub twice_none : (seen : List (List ℕ)) (at h : ℕ) (xs : List Gate) (at' e : ℕ) (cs : List ℕ) → ((w : List ℕ) → In w seen → (j : ℕ) × (j < h) × (w ≡ gate_name j)) → h + length xs ≤ small
    → twice_from seen (gates_said at h xs ++ chances_said at' e cs) ≡ 0
twice_none seen at h [] at' e cs f s = twice_chances seen at' e cs
twice_none seen at h (x ∷ xs) at' e cs f s =
    rw (not_has (gate_name h) seen (λ k. new (f (gate_name h) k)))
    (twice_none (gate_name h ∷ seen) (at + length (gate_line h x)) (suc h) xs at' e cs more (omega arith))
  where
    new : (j : ℕ) × (j < h) × (gate_name h ≡ gate_name j) → ⊥
    new (j, l, q) = let z = gate_inj h j (omega arith) (omega arith) q in omega arith

    old : {w : List ℕ} → (j : ℕ) × (j < h) × (w ≡ gate_name j) → (j : ℕ) × (j < suc h) × (w ≡ gate_name j)
    old (j, l, q) = (j, omega arith, q)

    more : (w : List ℕ) → In w (gate_name h ∷ seen) → (j : ℕ) × (j < suc h) × (w ≡ gate_name j)
    more w (inl q) = (h, omega arith, q)
    more w (inr k) = old (f w k)

-- ---- no line is wrong

pub wrong_gates : (all : List Placed) (given : List (List ℕ)) (at h : ℕ) (xs : List Gate) (rest : List Placed) → wrong_from all given (gates_said at h xs ++ rest) ≡ wrong_from all given rest
wrong_gates all given at h [] rest = refl
wrong_gates all given at h (x ∷ xs) rest = wrong_gates all given (at + length (gate_line h x)) (suc h) xs rest

pub wrong_chances : (all : List Placed) (given : List (List ℕ)) (at e : ℕ) (cs : List ℕ) → ((w : List ℕ) → In w given → (j : ℕ) × (j < e) × (w ≡ event_name j)) → e + length cs ≤ small
    → ((j : ℕ) → j < e + length cs → In (event_name j) (dict_in all)) → ((j : ℕ) → defined_in (event_name j) all ≡ 0) → wrong_from all given (chances_said at e cs) ≡ 0
wrong_chances all given at e [] f s a b = refl
wrong_chances all given at e (c ∷ cs) f s a b =
    rw (in_has (event_name e) (dict_in all) (a e (omega arith)), b e, not_has (event_name e) given (λ k. new (f (event_name e) k)))
    (wrong_chances all (event_name e ∷ given) (at + length (chance_line (event_name e) (decimal c)) + 1) (suc e) cs more (omega arith) (λ j l. a j (omega arith)) b)
  where
    new : (j : ℕ) × (j < e) × (event_name e ≡ event_name j) → ⊥
    new (j, l, q) = let z = event_inj e j (omega arith) (omega arith) q in omega arith

    old : {w : List ℕ} → (j : ℕ) × (j < e) × (w ≡ event_name j) → (j : ℕ) × (j < suc e) × (w ≡ event_name j)
    old (j, l, q) = (j, omega arith, q)

    more : (w : List ℕ) → In w (event_name e ∷ given) → (j : ℕ) × (j < suc e) × (w ≡ event_name j)
    more w (inl q) = (e, omega arith, q)
    more w (inr k) = old (f w k)

-- ---- the chances

pub chance_gates : (w : List ℕ) (at h : ℕ) (xs : List Gate) (rest : List Placed) → chance_in w (gates_said at h xs ++ rest) ≡ chance_in w rest
chance_gates w at h [] rest = refl
chance_gates w at h (x ∷ xs) rest = chance_gates w (at + length (gate_line h x)) (suc h) xs rest

pub chance_at : (at e i : ℕ) (cs : List ℕ) → i < length cs → e + length cs ≤ small → chance_in (event_name (e + i)) (chances_said at e cs) ≡ get_or cs i 0
chance_at at e i [] l s = let b : ⊥ = omega arith in absurd b
chance_at at e zero (c ∷ cs) l s = let q : e + 0 ≡ e = omega arith in rw (q, same_refl (event_name e)) refl
chance_at at e (suc i) (c ∷ cs) l s =
    let q : suc e + i ≡ e + suc i = omega arith in
    rw (not_same (event_name (e + suc i)) (event_name e) other)
    (subst (λ j. chance_in (event_name j) (chances_said (at + length (chance_line (event_name e) (decimal c)) + 1) (suc e) cs) ≡ get_or cs i 0) q
    (chance_at (at + length (chance_line (event_name e) (decimal c)) + 1) (suc e) i cs (omega arith) (omega arith)))
  where
    other : event_name (e + suc i) ≡ event_name e → ⊥
    other p = let z = event_inj (e + suc i) e (omega arith) (omega arith) p in omega arith

-- ---- every equation has an input

filled_chances : (at e : ℕ) (cs : List ℕ) → AllFilled (chances_said at e cs)
filled_chances at e [] = tt
filled_chances at e (c ∷ cs) = (tt, filled_chances (at + length (chance_line (event_name e) (decimal c)) + 1) (suc e) cs)

filled_gate : (g : ℕ) (x : Gate) → 1 ≤ length (inputs_to x) → Filled (gate_says g x)
filled_gate g x h = go (inputs_to x) h
  where
    go : (is : List Input) → 1 ≤ length is → Filled (equation (gate_name g) (connective_for x is) (map input_name is))
    go [] h = let b : ⊥ = omega arith in absurd b
    go (i ∷ is) h = tt

pub filled_said : (at h : ℕ) (xs : List Gate) (at' e : ℕ) (cs : List ℕ) → ((x : Gate) → In x xs → 1 ≤ length (inputs_to x)) → AllFilled (gates_said at h xs ++ chances_said at' e cs)
filled_said at h [] at' e cs f = filled_chances at' e cs
filled_said at h (x ∷ xs) at' e cs f = (filled_gate h x (f x (inl refl)), filled_said (at + length (gate_line h x)) (suc h) xs at' e cs (λ y k. f y (inr k)))
