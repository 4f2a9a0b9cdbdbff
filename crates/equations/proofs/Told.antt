-- A tree in memory whose bytes are accepted is, as the paper has it, the tree that its bytes say.
-- Assumes nothing.
use mathlib.Core.Path.{◌≡◌, refl, sym, ap, ap₂, ◌∙◌}
use mathlib.Core.List.{List, [], ◌∷◌, ◌++◌, map}
use Prim.Native.Nat.{ℕ, zero, suc, ◌+◌, ◌≤◌, ◌<◌}
use native.Mathlib.Omega.{arith}
use lib.Dec.{ltb, eqb}
use lib.ListN.{length, get_or, take, drop, length-append, length-drop, take-append-drop, get_or-append}
use lib.Seq.{take-suc, get_or_at, take-append-le, drop-append-le}
use borrow.Author.Tests.{ltb-true, ltb-false, eqb-false}
use Rattle.paper.specs.Limits.{limits}
use Rattle.paper.specs.Lists.{sum}
use Rattle.paper.specs.Trees.{Input}
use Rattle.paper.specs.Flat.{input_of, gate_of, gates_of}
use Rattle.rules.proofs.Cases.{either}
use Rattle.records.specs.Judge.{Book, accept, outcome}
use Rattle.records.specs.Memory.{pad, memory, tabulate, no_event}
use Rattle.records.specs.Trees.{Lawful, tree_of, tree_in}
use Rattle.records.specs.declared.Event.{Event}
use Rattle.records.specs.declared.Tree.{Tree}
use Rattle.records.proofs.Lists.{map_append}
use Rattle.records.proofs.Pad.{pad_take, pad_length}
use Rattle.judging.specs.Bytes.{bytes_of, held_event, told_least, told_event, told}
use Rattle.trees.proofs.Lawful.{lawful}
use Rattle.trees.proofs.ReadBack.{read_told}
use Rattle.trees.proofs.Exactly.{lawful_read_back}

-- the arrays have the lengths that the type of a tree gives them
pub record Sized (t : Tree) : Type 0 where
  pub events : length t.events ≡ limits.events
  pub sizes : length t.sizes ≡ limits.gates
  pub inputs : length t.inputs ≡ limits.in_all

-- ---- tables

module _ {A : Type 0} where
  table_long : (n : ℕ) (f : ℕ → A) → length (tabulate n f) ≡ n
  unfolding tabulate
  table_long zero f = refl
  table_long (suc n) f = let h = table_long n f in let a = length-append (tabulate n f) (f n ∷ []) in omega arith

  table_at : (n : ℕ) (f : ℕ → A) (i : ℕ) (d : A) → i < n → get_or (tabulate n f) i d ≡ f i
  unfolding tabulate
  table_at zero f i d h = absurd (omega arith)
  table_at (suc n) f i d h =
      let long = table_long n f in
      either (ltb i n)
      (λ q. let low : i < n = ltb-true i n q in get_or-append (tabulate n f) (f n ∷ []) d i (omega arith) ∙ table_at n f i d low)
      (λ q. let last : i ≡ n = omega (arith, ltb-false i n q) in get_or_at (tabulate n f) (f n) [] d i (long ∙ sym last) ∙ ap f (sym last))

  table_is : (n : ℕ) (l : List A) (d : A) → n ≤ length l → tabulate n (λ i. get_or l i d) ≡ take n l
  unfolding tabulate
  table_is zero l d h = refl
  table_is (suc n) l d h = ap (λ (x : List A). x ++ (get_or l n d ∷ [])) (table_is n l d (omega arith)) ∙ sym (take-suc l n d (omega arith))

  pad_same : (n : ℕ) (z : A) (xs ys : List A) → length xs ≡ length ys → pad n z xs ≡ pad n z ys → xs ≡ ys
  pad_same n z xs ys h p = sym (pad_take n z xs) ∙ ap (take (length xs)) p ∙ ap (λ (k : ℕ). take k (pad n z ys)) h ∙ pad_take n z ys

map_table : {A B : Type 0} (f : A → B) (n : ℕ) (g : ℕ → A) → map f (tabulate n g) ≡ tabulate n (λ i. f (g i))
unfolding tabulate
map_table f zero g = refl
map_table f (suc n) g = map_append f (tabulate n g) (g n ∷ []) ∙ ap (λ m. m ++ (f (g n) ∷ [])) (map_table f n g)

-- ---- gates that agree one by one, on the inputs that they want

gates_agree : (kinds leasts kinds' leasts' : List ℕ) (g : ℕ) (sizes xs ys : List ℕ)
    → ((x : ℕ) → x < length sizes → (is : List Input) → gate_of (get_or kinds (g + x) 0) (get_or leasts (g + x) 0) is ≡ gate_of (get_or kinds' (g + x) 0) (get_or leasts' (g + x) 0) is)
    → sum sizes ≤ length xs → gates_of kinds leasts g sizes (xs ++ ys) ≡ gates_of kinds' leasts' g sizes xs
unfolding gates_of
gates_agree kinds leasts kinds' leasts' g [] xs ys f h = refl
gates_agree kinds leasts kinds' leasts' g (n ∷ sizes) xs ys f h =
    let here : g + 0 ≡ g = omega arith in
    let is = map input_of (take n xs) in
    let first : gate_of (get_or kinds g 0) (get_or leasts g 0) is ≡ gate_of (get_or kinds' g 0) (get_or leasts' g 0) is = rw here at (f 0 (omega arith) is) in
    let more : (x : ℕ) → x < length sizes → (js : List Input) → gate_of (get_or kinds (g + 1 + x) 0) (get_or leasts (g + 1 + x) 0) js ≡ gate_of (get_or kinds' (g + 1 + x) 0) (get_or leasts' (g + 1 + x) 0) js
    = λ x l js. let next : g + suc x ≡ g + 1 + x = omega arith in rw next at (f (suc x) (omega arith) js) in
    rw (take-append-le n xs ys (omega arith), drop-append-le n xs ys (omega arith))
    (ap₂ ◌∷◌ first (gates_agree kinds leasts kinds' leasts' (g + 1) sizes (drop n xs) ys more (omega (arith, length-drop n xs))))

-- the k of an and and of an or is not told, and makes no difference
least_told : (kind k : ℕ) (is : List Input) → (2 ≤ kind) × (kind ≤ 4) → gate_of kind k is ≡ gate_of kind (told_least kind k) is
least_told kind k is r =
    either (eqb kind 4) (λ q. rw q refl)
    (λ q. either (eqb kind 2) (λ a. rw a refl)
    (λ a. either (eqb kind 3) (λ c. rw (a, c) refl)
    (λ c. absurd (omega (arith, r.0, r.1, eqb-false kind 4 q, eqb-false kind 2 a, eqb-false kind 3 c)))))

-- ---- what an accepted tree holds, list by list

module _ (t : Tree) (b : Book) (e : outcome limits (bytes_of t) ≡ accept b) where
  kept : Lawful limits b
  kept = lawful (bytes_of t) b e

  events_count : length b.events ≡ t.event_count
  unfolding memory told
  events_count = ap (λ (x : Tree). x.event_count) (read_told t b e)

  gates_count : length b.sizes ≡ t.gate_count
  unfolding memory told
  gates_count = ap (λ (x : Tree). x.gate_count) (read_told t b e)

  events_told : b.events ≡ tabulate t.event_count (λ i. told_event t.sited (held_event t i))
  unfolding memory told
  events_told = pad_same limits.events no_event b.events _ (events_count ∙ sym (table_long t.event_count _)) (ap (λ (x : Tree). x.events) (read_told t b e))

  kinds_told : b.kinds ≡ tabulate t.gate_count (λ g. get_or t.kinds g 0)
  unfolding memory told
  kinds_told = pad_same limits.gates 0 b.kinds _ (kept.same_kinds ∙ gates_count ∙ sym (table_long t.gate_count _)) (ap (λ (x : Tree). x.kinds) (read_told t b e))

  leasts_told : b.leasts ≡ tabulate t.gate_count (λ g. told_least (get_or t.kinds g 0) (get_or t.leasts g 0))
  unfolding memory told
  leasts_told = pad_same limits.gates 0 b.leasts _ (kept.same_leasts ∙ gates_count ∙ sym (table_long t.gate_count _)) (ap (λ (x : Tree). x.leasts) (read_told t b e))

  sizes_told : b.sizes ≡ tabulate t.gate_count (λ g. get_or t.sizes g 0)
  unfolding memory told
  sizes_told = pad_same limits.gates 0 b.sizes _ (gates_count ∙ sym (table_long t.gate_count _)) (ap (λ (x : Tree). x.sizes) (read_told t b e))

  abbrev wanted : ℕ
  wanted = sum (tabulate t.gate_count (λ g. get_or t.sizes g 0))

  inputs_count : length b.inputs ≡ wanted
  inputs_count = sym kept.all_inputs ∙ ap sum sizes_told

  inputs_told : b.inputs ≡ tabulate wanted (λ i. get_or t.inputs i 0)
  unfolding memory told
  inputs_told = pad_same limits.in_all 0 b.inputs _ (inputs_count ∙ sym (table_long wanted _)) (ap (λ (x : Tree). x.inputs) (read_told t b e))

  agree : (x : ℕ) → x < length b.sizes → (is : List Input)
      → gate_of (get_or t.kinds x 0) (get_or t.leasts x 0) is ≡ gate_of (get_or b.kinds x 0) (get_or b.leasts x 0) is
  agree x l is =
      let low : x < t.gate_count = omega (arith, gates_count) in
      let kind : get_or b.kinds x 0 ≡ get_or t.kinds x 0 = ap (λ (m : List ℕ). get_or m x 0) kinds_told ∙ table_at t.gate_count (λ g. get_or t.kinds g 0) x 0 low in
      let least : get_or b.leasts x 0 ≡ told_least (get_or t.kinds x 0) (get_or t.leasts x 0)
      = ap (λ (m : List ℕ). get_or m x 0) leasts_told ∙ table_at t.gate_count (λ g. told_least (get_or t.kinds g 0) (get_or t.leasts g 0)) x 0 low in
      let k = kept.kinds x l in
      least_told (get_or t.kinds x 0) (get_or t.leasts x 0) is (omega (arith, k.0), omega (arith, k.1))
      ∙ ap₂ (λ (m n : ℕ). gate_of m n is) (sym kind) (sym least)

  module _ (s : Sized t) where
    sizes_are : b.sizes ≡ take t.gate_count t.sizes
    sizes_are = sizes_told ∙ table_is t.gate_count t.sizes 0 (omega (arith, gates_count, kept.few_gates, s.sizes))

    inputs_are : b.inputs ≡ take wanted t.inputs
    inputs_are = inputs_told ∙ table_is wanted t.inputs 0 (omega (arith, inputs_count, kept.few_inputs, s.inputs))

    -- an event's record has its chance, whatever it has of its site
    chances_are : map (λ (x : Event). x.chance) b.events ≡ map (λ (x : Event). x.chance) (take t.event_count t.events)
    chances_are =
        ap (map (λ (x : Event). x.chance)) events_told
        ∙ map_table (λ (x : Event). x.chance) t.event_count (λ i. told_event t.sited (held_event t i))
        ∙ sym (map_table (λ (x : Event). x.chance) t.event_count (held_event t))
        ∙ ap (map (λ (x : Event). x.chance)) (table_is t.event_count t.events no_event (omega (arith, events_count, kept.few_events, s.events)))

    inputs_split : t.inputs ≡ b.inputs ++ drop wanted t.inputs
    inputs_split = sym (take-append-drop wanted t.inputs) ∙ ap (λ (m : List ℕ). m ++ drop wanted t.inputs) (sym inputs_are)

    same_gates : (tree_in t).gates ≡ (tree_of b).gates
    unfolding tree_in tree_of
    same_gates =
        ap₂ (λ (m n : List ℕ). gates_of t.kinds t.leasts 0 m n) (sym sizes_are) inputs_split
        ∙ gates_agree t.kinds t.leasts b.kinds b.leasts 0 b.sizes b.inputs (drop wanted t.inputs)
        (λ x l is. let own : 0 + x ≡ x = omega arith in rw own (agree x l is)) (omega (arith, kept.all_inputs))

    same_chances : (tree_in t).chances ≡ (tree_of b).chances
    unfolding tree_in tree_of
    same_chances = sym chances_are

    -- THE TREE IN MEMORY is the tree that its bytes say
    pub accepted_tree : tree_in t ≡ tree_of b
    accepted_tree = ap₂ (λ c g. record { chances = c; gates = g }) same_chances same_gates

-- ---- a lawful book's tree in memory

pub sized_memory : (b : Book) → Lawful limits b → Sized (memory b)
unfolding memory
sized_memory b l = record {
  events = pad_length limits.events no_event b.events l.few_events;
  sizes = pad_length limits.gates 0 b.sizes l.few_gates;
  inputs = pad_length limits.in_all 0 b.inputs l.few_inputs;
}

pub tree_in_memory : (b : Book) → Lawful limits b → tree_in (memory b) ≡ tree_of b
tree_in_memory b l = let (c, e, _, same) = lawful_read_back b l in accepted_tree (memory b) c e (sized_memory b l) ∙ same
