-- A tree laid out as memory holds it is that tree again, and it keeps the rules that the tree keeps.
-- Assumes nothing.
use mathlib.Core.Path.{◌≡◌, refl, sym, ap, ◌∙◌, subst}
use mathlib.Core.Logic.{inl, inr}
use mathlib.Core.Bool.{Bool, true, false, cond, ◌||◌}
use mathlib.Core.List.{List, [], ◌∷◌, ◌++◌, map, append_assoc}
use Prim.Native.Nat.{ℕ, zero, suc, ◌+◌, ◌-◌, ◌≤◌, ◌<◌}
use native.Mathlib.Omega.{arith}
use lib.Dec.{ltb, eqb}
use lib.ListN.{length, get_or, take, drop, length-append, get_or-append}
use lib.Seq.{take_at, drop_at, get_or_at, drop-append-add, get_or-append-add}
use borrow.Author.Tests.{ltb-false, lt-ltb, le-ltb, eq-eqb}
use Rattle.paper.specs.Limits.{limits}
use Rattle.paper.specs.Lists.{In, flat, sum}
use Rattle.paper.specs.Trees.{Input, event, gate, forced, Gate, and_g, or_g, least_g, distinct_inputs, Tree, events, InputBelow, InputsBelow, GateBelow, TreeBelow}
use Rattle.paper.specs.Flat.{gates_from, failed_from, input_of, gate_of, gates_of}
use Rattle.paper.specs.Importing.{inputs_to, least_breaks, events_break, gates_break}
use Rattle.twins.specs.Distinct.{distinct_codes}
use Rattle.rules.specs.Rules.{Fits}
use Rattle.rules.proofs.Cases.{either}
use Rattle.records.specs.Uses.{among}
use Rattle.records.specs.Thresholds.{inputs_at, distinct_at}
use Rattle.records.specs.Judge.{◌▷◌}
use Rattle.records.specs.Memory.{no_event}
use Rattle.records.specs.Trees.{tree_of, Lawful, InputLower, InputsLower, GateLower, TreeLower}
use Rattle.records.specs.Flattened.{kind_of, least_of, size_of, code_of, codes_of, event_of, book_of, Used, LawfulTree}
use Rattle.records.specs.declared.Event.{Event}
use Rattle.records.proofs.Lists.{map_length, map_append, map_at, map_in, at_in, in_first, in_second}
use Rattle.records.proofs.Pad.{length_▷}
use Rattle.records.proofs.Codes.{distinct_codes_lem}
use Rattle.records.proofs.Breaks.{events_few, events_low, gates_few, gates_room, gates_right, broken_events, broken_gates}

-- ---- the codes of gates, one gate after the other

pub codes_long : (x : Gate) → length (codes_of x) ≡ size_of x
codes_long x = map_length code_of (inputs_to x)

pub codes_sum : (xs : List Gate) → sum (map size_of xs) ≡ length (flat codes_of xs)
codes_sum [] = refl
codes_sum (x ∷ xs) = omega (arith, length-append (codes_of x) (flat codes_of xs), codes_long x, codes_sum xs)

pub codes_at : (xs : List Gate) (g i : ℕ) (d : Gate) → g < length xs → i < size_of (get_or xs g d)
    → get_or (flat codes_of xs) (sum (take g (map size_of xs)) + i) 0 ≡ get_or (codes_of (get_or xs g d)) i 0
codes_at [] g i d h l = absurd (omega arith)
codes_at (x ∷ xs) zero i d h l =
    let n : i < length (codes_of x) = omega (arith, codes_long x) in
    let q : 0 + i ≡ i = omega arith in
    ap (λ k. get_or (codes_of x ++ flat codes_of xs) k 0) q ∙ get_or-append (codes_of x) (flat codes_of xs) 0 i n
codes_at (x ∷ xs) (suc g) i d h l =
    let s : ℕ = sum (take g (map size_of xs)) in
    let q : size_of x + s + i ≡ length (codes_of x) + (s + i) = omega (arith, codes_long x) in
    ap (λ k. get_or (codes_of x ++ flat codes_of xs) k 0) q
    ∙ get_or-append-add (codes_of x) (flat codes_of xs) (s + i) 0
    ∙ codes_at xs g i d (omega arith) l

pub codes_of_lem : (xs : List Gate) (g : ℕ) (d : Gate) → g < length xs → inputs_at (map size_of xs) (flat codes_of xs) g ≡ codes_of (get_or xs g d)
codes_of_lem [] g d h = absurd (omega arith)
codes_of_lem (x ∷ xs) zero d h = take_at (codes_of x) (flat codes_of xs) (size_of x) (codes_long x)
codes_of_lem (x ∷ xs) (suc g) d h =
    let s : ℕ = sum (take g (map size_of xs)) in
    let q : size_of x + s ≡ length (codes_of x) + s = omega (arith, codes_long x) in
    ap (λ k. take (get_or (map size_of xs) g 0) (drop k (codes_of x ++ flat codes_of xs))) q
    ∙ ap (take (get_or (map size_of xs) g 0)) (drop-append-add (codes_of x) (flat codes_of xs) s)
    ∙ codes_of_lem xs g d (omega arith)

in_among : (x : ℕ) (l : List ℕ) → In x l → among x l ≡ true
unfolding among
in_among x [] h = absurd h
in_among x (y ∷ l) (inl e) = rw (eq-eqb y x (sym e), among)
in_among x (y ∷ l) (inr h) = either (eqb y x) (λ q. rw (q, among)) (λ q. rw (q, among) (in_among x l h))

in_codes : (c : ℕ) (x : Gate) (xs : List Gate) → In x xs → In c (codes_of x) → In c (flat codes_of xs)
in_codes c x [] h k = absurd h
in_codes c x (y ∷ xs) (inl e) k = in_first c (codes_of y) (flat codes_of xs) (rw e at k)
in_codes c x (y ∷ xs) (inr h) k = in_second c (codes_of y) (flat codes_of xs) (in_codes c x xs h k)

used_among : {i : Input} {xs : List Gate} → Used i xs → among (code_of i) (flat codes_of xs) ≡ true
used_among {i} {xs} u = in_among (code_of i) (flat codes_of xs) (in_codes (code_of i) u.by xs u.one (map_in code_of i (inputs_to u.by) u.is))

-- ---- the tree again

-- n events, and a gate numbered g
module _ (n g : ℕ) (few : n ≤ gates_from) (low : g ≤ limits.gates) where
  input_again : (i : Input) → InputBelow n i → InputLower g i → input_of (code_of i) ≡ i
  input_again (event e) h l = rw (lt-ltb e gates_from (omega arith))
  input_again (gate k) h l =
      let q : gates_from + k - gates_from ≡ k = omega arith in
      rw (le-ltb (gates_from + k) gates_from (omega arith), lt-ltb (gates_from + k) failed_from (omega arith), q)
  input_again (forced e b) h l = absurd l

  inputs_again : (is : List Input) → InputsBelow n is → InputsLower g is → map input_of (map code_of is) ≡ is
  inputs_again [] h l = refl
  inputs_again (i ∷ is) h l = λ j. input_again i h.0 l.0 j ∷ inputs_again is h.1 l.1 j

gate_inputs_below : (n : ℕ) (x : Gate) → GateBelow n x → InputsBelow n (inputs_to x)
gate_inputs_below n (and_g is) h = h
gate_inputs_below n (or_g is) h = h
gate_inputs_below n (least_g k is) h = h

gate_again : (x : Gate) → gate_of (kind_of x) (least_of x) (inputs_to x) ≡ x
gate_again (and_g is) = refl
gate_again (or_g is) = refl
gate_again (least_g k is) = refl

gate_inputs_lower : (g : ℕ) (x : Gate) → GateLower g x → InputsLower g (inputs_to x)
gate_inputs_lower g (and_g is) h = h
gate_inputs_lower g (or_g is) h = h
gate_inputs_lower g (least_g k is) h = h

gates_again : (n : ℕ) → n ≤ gates_from → (xs before : List Gate) → TreeBelow n xs → TreeLower (length before) xs → length before + length xs ≤ limits.gates
    → gates_of (map kind_of (before ++ xs)) (map least_of (before ++ xs)) (length before) (map size_of xs) (flat codes_of xs) ≡ xs
unfolding gates_of
gates_again n l [] before h w few = refl
gates_again n l (x ∷ xs) before h w few =
    let kind : get_or (map kind_of (before ++ x ∷ xs)) (length before) 0 ≡ kind_of x
    = ap (λ m. get_or m (length before) 0) (map_append kind_of before (x ∷ xs)) ∙ get_or_at (map kind_of before) (kind_of x) (map kind_of xs) 0 (length before) (map_length kind_of before) in
    let least : get_or (map least_of (before ++ x ∷ xs)) (length before) 0 ≡ least_of x
    = ap (λ m. get_or m (length before) 0) (map_append least_of before (x ∷ xs)) ∙ get_or_at (map least_of before) (least_of x) (map least_of xs) 0 (length before) (map_length least_of before) in
    let mine : map input_of (take (size_of x) (codes_of x ++ flat codes_of xs)) ≡ inputs_to x
    = ap (map input_of) (take_at (codes_of x) (flat codes_of xs) (size_of x) (codes_long x)) ∙ inputs_again n (length before) l (omega arith) (inputs_to x) (gate_inputs_below n x h.0) (gate_inputs_lower (length before) x w.0) in
    let rest : drop (size_of x) (codes_of x ++ flat codes_of xs) ≡ flat codes_of xs = drop_at (codes_of x) (flat codes_of xs) (size_of x) (codes_long x) in
    let longer : before ++ x ∷ xs ≡ ◌▷◌ before x ++ xs = sym (append_assoc before (x ∷ []) xs) in
    let first : gate_of (get_or (map kind_of (before ++ x ∷ xs)) (length before) 0) (get_or (map least_of (before ++ x ∷ xs)) (length before) 0) (map input_of (take (size_of x) (codes_of x ++ flat codes_of xs))) ≡ x
    = rw (kind, least, mine) (gate_again x) in
    let others : gates_of (map kind_of (before ++ x ∷ xs)) (map least_of (before ++ x ∷ xs)) (length before + 1) (map size_of xs) (drop (size_of x) (codes_of x ++ flat codes_of xs)) ≡ xs
    = rw (rest, longer, ← length_▷ before x) (gates_again n l xs (◌▷◌ before x) h.1 (subst (λ k. TreeLower k xs) (sym (length_▷ before x)) w.1) (omega (arith, length_▷ before x))) in
    λ j. first j ∷ others j

chances_again : (cs : List ℕ) → map (λ (e : Event). e.chance) (map event_of cs) ≡ cs
chances_again [] = refl
chances_again (c ∷ cs) = ap (λ m. c ∷ m) (chances_again cs)

pub tree_again : (t : Tree) {n : ℕ} → n ≤ gates_from → length t.gates ≤ limits.gates → TreeBelow n t.gates → TreeLower 0 t.gates → tree_of (book_of t) ≡ t
unfolding tree_of book_of
tree_again t {n} l few h w j = record { chances = chances_again t.chances j; gates = gates_again n l t.gates [] h w (omega arith) j }

-- ---- the rules of the tree, kept by what lies in memory

below_at : (n : ℕ) (xs : List Gate) (g : ℕ) (d : Gate) → TreeBelow n xs → g < length xs → InputsBelow n (inputs_to (get_or xs g d))
below_at n [] g d h l = absurd (omega arith)
below_at n (x ∷ xs) zero d h l = gate_inputs_below n x h.0
below_at n (x ∷ xs) (suc g) d h l = below_at n xs g d h.1 (omega arith)

lower_at : (from : ℕ) (xs : List Gate) (g : ℕ) (d : Gate) → TreeLower from xs → g < length xs → InputsLower (from + g) (inputs_to (get_or xs g d))
lower_at from [] g d h l = absurd (omega arith)
lower_at from (x ∷ xs) zero d h l = let q : from + 0 ≡ from = omega arith in rw q (gate_inputs_lower from x h.0)
lower_at from (x ∷ xs) (suc g) d h l = let q : from + suc g ≡ from + 1 + g = omega arith in rw q (lower_at (from + 1) xs g d h.1 (omega arith))

input_fits : (n g : ℕ) → n ≤ gates_from → (i : Input) → InputBelow n i → InputLower g i → Fits n g (code_of i)
input_fits n g l (event e) b h = record { below = omega arith; event = λ _. b }
input_fits n g l (gate k) b h = record { below = omega arith; event = λ q. absurd (omega arith) }
input_fits n g l (forced e c) b h = absurd h

inputs_fit : (n g : ℕ) → n ≤ gates_from → (is : List Input) → InputsBelow n is → InputsLower g is → (i : ℕ) → i < length is → Fits n g (get_or (map code_of is) i 0)
inputs_fit n g l [] b h i k = absurd (omega arith)
inputs_fit n g l (x ∷ is) b h zero k = input_fits n g l x b.0 h.0
inputs_fit n g l (x ∷ is) b h (suc i) k = inputs_fit n g l is b.1 h.1 i (omega arith)

kind_known : (x : Gate) → (2 ≤ kind_of x) × (kind_of x ≤ 4)
kind_known (and_g is) = (omega arith, omega arith)
kind_known (or_g is) = (omega arith, omega arith)
kind_known (least_g k is) = (omega arith, omega arith)

kind_plain : (x : Gate) → (kind_of x ≡ 4 → ⊥) → least_of x ≡ 0
kind_plain (and_g is) h = refl
kind_plain (or_g is) h = refl
kind_plain (least_g k is) h = absurd (h refl)

least_none : (a b : Bool) → ◌≡◌ {A = ℕ} (cond (a || b) 5 0) 0 → (a ≡ false) × (b ≡ false)
least_none true b e = absurd (omega arith)
least_none false true e = absurd (omega arith)
least_none false false e = (refl, refl)

pub least_right : (x : Gate) → least_breaks x ≡ 0 → kind_of x ≡ 4 → (1 ≤ least_of x) × (least_of x ≤ length (distinct_inputs (inputs_to x)))
least_right (and_g is) e q = absurd (omega arith)
least_right (or_g is) e q = absurd (omega arith)
least_right (least_g zero is) e q = absurd (omega arith)
least_right (least_g (suc k) is) e q =
    let n : ℕ = length (distinct_inputs is) in
    let t = least_none (eqb (suc k) 0) (ltb n (suc k)) e in
    (omega arith, ltb-false n (suc k) t.1)

module _ (t : Tree) (h : LawfulTree limits t) where
  abbrev none : Gate
  none = or_g []

  abbrev xs : List Gate
  xs = t.gates

  chances_fine : events_break limits 0 t.chances ≡ 0
  chances_fine = broken_events limits t h.within

  gates_fine : gates_break limits 0 0 xs ≡ 0
  gates_fine = broken_gates limits t h.within

  right : (g : ℕ) → g < length xs → (1 ≤ size_of (get_or xs g none)) × (size_of (get_or xs g none) ≤ limits.inputs) × (least_breaks (get_or xs g none) ≡ 0)
  right g l = gates_right limits xs 0 0 gates_fine (get_or xs g none) (at_in xs g none l)

  few : events t ≤ gates_from
  few = omega (arith, events_few limits t.chances 0 chances_fine (omega arith))

  -- as many distinct numbers as distinct inputs
  distinct_at_lem : (g : ℕ) → g < length xs → distinct_at (map size_of xs) (flat codes_of xs) g ≡ length (distinct_inputs (inputs_to (get_or xs g none)))
  distinct_at_lem g l =
      let is : List Input = inputs_to (get_or xs g none) in
      ap (λ cs. length (distinct_codes cs)) (codes_of_lem xs g none l)
      ∙ ap length (distinct_codes_lem (events t) few (0 + g) is (below_at (events t) xs g none h.below l) (lower_at 0 xs g none h.lower l))
      ∙ map_length code_of (distinct_inputs is)

  pub tree_lawful : Lawful limits (book_of t)
  unfolding book_of
  tree_lawful =
      let sizes_long : length (map size_of xs) ≡ length xs = map_length size_of xs in
      let events_long : length (map event_of t.chances) ≡ events t = map_length event_of t.chances in
      let in_xs : (g : ℕ) → g < length (map size_of xs) → g < length xs = λ g l. omega arith in
      record {
        some_event = omega (arith, h.some_event);
        some_gate = omega (arith, h.some_gate);
        few_events = omega (arith, few);
        few_gates = omega (arith, gates_few limits xs 0 0 gates_fine (omega arith));
        same_kinds = map_length kind_of xs ∙ sym sizes_long;
        same_leasts = map_length least_of xs ∙ sym sizes_long;
        all_inputs = codes_sum xs;
        few_inputs = omega (arith, codes_sum xs, gates_room limits xs 0 0 gates_fine (omega arith));
        chances = λ e l. rw (map_at event_of t.chances e no_event 0 (omega arith)) (events_low limits t.chances 0 chances_fine e (omega arith));
        sites = λ _ e l. rw (map_at event_of t.chances e no_event 0 (omega arith));
        kinds = λ g l. rw (map_at kind_of xs g 0 none (in_xs g l)) (kind_known (get_or xs g none));
        sizes = λ g l. rw (map_at size_of xs g 0 none (in_xs g l)) ((right g (in_xs g l)).0, (right g (in_xs g l)).1);
        leasts = λ g l. rw (map_at kind_of xs g 0 none (in_xs g l), map_at least_of xs g 0 none (in_xs g l), distinct_at_lem g (in_xs g l))
            (least_right (get_or xs g none) (right g (in_xs g l)).2);
        plain = λ g l. rw (map_at kind_of xs g 0 none (in_xs g l), map_at least_of xs g 0 none (in_xs g l)) (kind_plain (get_or xs g none));
        inputs = λ g l i k.
            let q : 0 + g ≡ g = omega arith in
            let m : i < size_of (get_or xs g none) = rw (map_at size_of xs g 0 none (in_xs g l)) at k in
            rw (codes_at xs g i none (in_xs g l) m, events_long)
            (inputs_fit (events t) g few (inputs_to (get_or xs g none)) (below_at (events t) xs g none h.below (in_xs g l)) (rw q at (lower_at 0 xs g none h.lower (in_xs g l))) i m);
        events_used = λ e l. used_among (h.events_used e (omega arith));
        gates_used = λ g l. used_among (h.gates_used g (omega arith));
      }
