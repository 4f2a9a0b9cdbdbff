-- The names of a gate's inputs, and the right side of its equation.
-- Assumes nothing.
use mathlib.Core.Path.{◌≡◌, refl, sym, ap, ◌∙◌}
use mathlib.Core.List.{List, [], ◌∷◌, ◌++◌, map, append_assoc, append-nil}
use Prim.Native.Nat.{ℕ, suc, ◌+◌, ◌-◌, ◌*◌, ◌≤◌, ◌<◌}
use native.Mathlib.Numerals.{add-one}
use native.Mathlib.Omega.{arith}
use native.Mathlib.Nat.{add-zero}
use lib.ListN.{length, get_or, drop, length-drop, drop_of_length-le}
use lib.Seq.{slice-cons, get_or-drop, get_or-take, length-take-le}
use borrow.Author.Tests.{eq-eqb, ne_eqb, lt-ltb, le-ltb}
use Rattle.paper.specs.Trees.{Gate}
use Rattle.paper.specs.Flat.{gates_from, failed_from, sound_from, input_of}
use Rattle.paper.specs.Grammar.{and_word, or_word, comma, at_least_word, in_word}
use Rattle.paper.specs.Spelling.{join, join_all}
use Rattle.paper.specs.Exporting.{decimal, event_name, gate_name, input_name, by_gate, right_side}
use Rattle.exporting.specs.Laying.{Laid, name_of, names_of, tail_of, codes, gate_in, right_of, Inputs}
use Rattle.exporting.proofs.Laying.{lay_then, lay_same, Part, part_none, part_more, part_end}

-- ---- one name

pub event_name_lem : (code : ℕ) → code < gates_from → name_of code ≡ (101 ∷ []) ++ decimal code
unfolding event_name
event_name_lem code h = rw (lt-ltb code gates_from h) refl

pub gate_name_lem : (code : ℕ) → gates_from ≤ code → code < failed_from → name_of code ≡ (103 ∷ []) ++ decimal (code - gates_from)
unfolding gate_name
gate_name_lem code h l = rw (le-ltb code gates_from h, lt-ltb code failed_from l) refl

pub failed_name : (code : ℕ) → failed_from ≤ code → code < sound_from → name_of code ≡ (101 ∷ []) ++ decimal (code - failed_from)
unfolding event_name
failed_name code h l = rw (le-ltb code gates_from (omega arith), le-ltb code failed_from h, lt-ltb code sound_from l) refl

pub sound_name : (code : ℕ) → sound_from ≤ code → name_of code ≡ (101 ∷ []) ++ decimal (code - sound_from)
unfolding event_name
sound_name code h = rw (le-ltb code gates_from (omega arith), le-ltb code failed_from (omega arith), le-ltb code sound_from h) refl

-- ---- a row of names

join_is : (sep y cs : List ℕ) → join sep y (map input_name (map input_of cs)) ≡ y ++ tail_of sep cs
unfolding join tail_of
join_is sep y [] = sym (append-nil y)
join_is sep y (c ∷ cs) = ap (λ (x : List ℕ). y ++ x) (ap (λ (x : List ℕ). sep ++ x) (join_is sep (name_of c) cs) ∙ sym (append_assoc sep (name_of c) (tail_of sep cs)))

module _ (inputs : List ℕ) {first n : ℕ} (h : Inputs inputs first n) where
  enough : n ≤ length (drop first inputs)
  enough = let i = h.inside in let long = h.long in let d = length-drop first inputs in omega arith

  code_next : (i : ℕ) → i < n → drop i (codes inputs first n) ≡ get_or inputs (first + i) 0 ∷ drop (suc i) (codes inputs first n)
  code_next i l = slice-cons i n (drop first inputs) 0 l enough ∙ ap (λ (x : ℕ). x ∷ drop (suc i) (codes inputs first n)) (get_or-drop first inputs i 0)

  code_first : codes inputs first n ≡ get_or inputs first 0 ∷ drop 1 (codes inputs first n)
  code_first = let s = h.some in code_next 0 (omega arith) ∙ ap (λ (k : ℕ). get_or inputs k 0 ∷ drop 1 (codes inputs first n)) (add-zero first)

  row_is : (sep : List ℕ) → join_all sep (names_of inputs first n) ≡ name_of (get_or inputs first 0) ++ tail_of sep (drop 1 (codes inputs first n))
  row_is sep = ap (λ (l : List ℕ). join_all sep (map input_name (map input_of l))) code_first ∙ join_is sep (name_of (get_or inputs first 0)) (drop 1 (codes inputs first n))

  tail_next : (sep : List ℕ) (i : ℕ) → i < n → tail_of sep (drop i (codes inputs first n)) ≡ (sep ++ name_of (get_or inputs (first + i) 0)) ++ tail_of sep (drop (suc i) (codes inputs first n))
  unfolding tail_of
  tail_next sep i l = ap (tail_of sep) (code_next i l)

  tail_end : (sep : List ℕ) (i : ℕ) → n ≤ i → tail_of sep (drop i (codes inputs first n)) ≡ []
  unfolding tail_of
  tail_end sep i l =
      let m = length-take-le n (drop first inputs) enough in
      let k : length (codes inputs first n) ≤ i = omega arith in
      ap (tail_of sep) (drop_of_length-le (codes inputs first n) k)

-- the names of i inputs are laid, the first of them before
pub record Rowed (room : List ℕ) (at : ℕ) (sep inputs : List ℕ) (first n : ℕ) (room' : List ℕ) (end i : ℕ) : Type 0 where
  pub lies : Inputs inputs first n
  pub short : length sep ≤ 5
  pub low : at + 1900 ≤ 1000000000
  pub high : i ≤ n
  pub near : end ≤ at + 26 * i
  pub part : Part (tail_of sep (drop 1 (codes inputs first n))) room at (tail_of sep (drop i (codes inputs first n))) room' end

pub row_start : (room : List ℕ) (at : ℕ) (sep inputs : List ℕ) (first n : ℕ) → Inputs inputs first n × (length sep ≤ 5) × (at + 1900 ≤ 1000000000) → Rowed room at sep inputs first n room at 1
row_start room at sep inputs first n (h, short, low) =
    record { lies = h; short = short; low = low; high = h.some; near = omega arith; part = part_none (tail_of sep (drop 1 (codes inputs first n))) room at }

module _ {room : List ℕ} {at : ℕ} {sep inputs : List ℕ} {first n : ℕ} {room' : List ℕ} {end i : ℕ} (v : Rowed room at sep inputs first n room' end i) where
  pub row_inside : i < n → first + i < 4096
  row_inside h = let l = v.lies.inside in omega arith

  pub row_room : end + length sep + 21 ≤ 1000000000
  row_room = let f = v.lies.few in omega (arith, v.near, v.high, v.low, v.short)

  pub row_more : i < n → {room'' : List ℕ} {end'' : ℕ} → Laid room' end (sep ++ name_of (get_or inputs (first + i) 0)) room'' end'' × (end'' ≤ end + length sep + 21)
      → Rowed room at sep inputs first n room'' end'' (i + 1)
  row_more l (p, near) =
      record {
        lies = v.lies;
        short = v.short;
        low = v.low;
        high = omega arith;
        near = omega (arith, v.near, v.short);
        part = rw (add-one i) (part_more v.part (tail_next inputs v.lies sep i l) p);
      }

  pub row_end : n ≤ i → Laid room at (tail_of sep (drop 1 (codes inputs first n))) room' end × (end ≤ at + 1900)
  row_end l = (part_end v.part (tail_end inputs v.lies sep i l), let f = v.lies.few in omega (arith, v.near, v.high))

-- the first name, and the others
pub row_whole : {room : List ℕ} {at : ℕ} (sep inputs : List ℕ) {first n : ℕ} {room' : List ℕ} {end : ℕ} {room'' : List ℕ} {end'' : ℕ} → Inputs inputs first n
    → Laid room at (name_of (get_or inputs first 0)) room' end × (end ≤ at + 21) → Laid room' end (tail_of sep (drop 1 (codes inputs first n))) room'' end'' × (end'' ≤ end + 1900)
    → Laid room at (join_all sep (names_of inputs first n)) room'' end'' × (end'' ≤ at + 2000)
row_whole sep inputs h (p, a) (q, b) = (lay_same (row_is inputs h sep) (lay_then p q), omega arith)

-- ---- the right side

one_name : (x : Gate) (l : List ℕ) → length l ≡ 1 → right_side x (map input_name (map input_of l)) ≡ name_of (get_or l 0 0)
one_name x [] e = absurd (omega arith)
one_name x (c ∷ []) e = refl
one_name x (c ∷ d ∷ l) e = absurd (omega arith)

more_names : (x : Gate) (l : List ℕ) → 2 ≤ length l → right_side x (map input_name (map input_of l)) ≡ by_gate x (map input_name (map input_of l))
more_names x [] h = absurd (omega arith)
more_names x (c ∷ []) h = absurd (omega arith)
more_names x (c ∷ d ∷ l) h = refl

module _ (kind k : ℕ) (inputs : List ℕ) {first n : ℕ} (h : Inputs inputs first n) where
  codes_long : length (codes inputs first n) ≡ n
  codes_long = length-take-le n (drop first inputs) (enough inputs h)

  -- a gate of one input is that input
  pub right_one : n ≡ 1 → right_of kind k inputs first n ≡ name_of (get_or inputs first 0)
  unfolding right_of
  right_one e =
      one_name (gate_in kind k inputs first n) (codes inputs first n) (codes_long ∙ e)
      ∙ ap name_of (get_or-take n (drop first inputs) 0 0 (omega arith) ∙ get_or-drop first inputs 0 0 ∙ ap (λ (j : ℕ). get_or inputs j 0) (add-zero first))

  module _ (some : n ≡ 1 → ⊥) where
    many : right_of kind k inputs first n ≡ by_gate (gate_in kind k inputs first n) (names_of inputs first n)
    unfolding right_of
    many =
        let o = h.some in
        let l = codes_long in
        more_names (gate_in kind k inputs first n) (codes inputs first n) (omega (arith, some))

    pub right_and : kind ≡ 2 → right_of kind k inputs first n ≡ join_all and_word (names_of inputs first n)
    right_and e = many ∙ rw (eq-eqb kind 2 e) refl

    pub right_or : (kind ≡ 2 → ⊥) → kind ≡ 3 → right_of kind k inputs first n ≡ join_all or_word (names_of inputs first n)
    right_or d e = many ∙ rw (ne_eqb kind 2 d, eq-eqb kind 3 e) refl

    pub right_least : (kind ≡ 2 → ⊥) → (kind ≡ 3 → ⊥) → right_of kind k inputs first n ≡ at_least_word ++ decimal k ++ in_word ++ join_all comma (names_of inputs first n)
    right_least d e =
        many
        ∙ rw (ne_eqb kind 2 d, ne_eqb kind 3 e)
        (sym (append_assoc (at_least_word ++ decimal k) in_word (join_all comma (names_of inputs first n))
        ∙ append_assoc at_least_word (decimal k) (in_word ++ join_all comma (names_of inputs first n))))
