-- THE TEXT OF A LAWFUL TREE is read as its gate lines and then its chance lines, so it says the tree again.
-- Assumes nothing.
use mathlib.Core.Path.{◌≡◌, refl, sym, ap, ap₂, ◌∙◌, subst}
use mathlib.Core.Logic.{inl, inr}
use mathlib.Core.Bool.{true, ◌&&◌}
use mathlib.Core.List.{List, [], ◌∷◌, ◌++◌, map, append_assoc}
use Prim.Native.Nat.{ℕ, suc, ◌+◌, ◌<◌, ◌≤◌}
use native.Mathlib.Omega.{arith}
use lib.Dec.{leb}
use lib.ListN.{length, length-append, get_or}
use Rattle.paper.specs.Limits.{limits, billion}
use Rattle.paper.specs.Lists.{In, every}
use Rattle.paper.specs.Trees.{Input, event, gate, forced, Gate, and_g, or_g, least_g, same_input, Tree, events, root_fun}
use Rattle.paper.specs.Chance.{total}
use Rattle.paper.specs.Grammar.{chance, equation, at_least, is_name, line_of, and_word, or_word, comma, equals, at_least_word, in_word, blank, chance_word}
use Rattle.paper.specs.Texts.{says, line_feed, lines_from, lines_of}
use Rattle.paper.specs.Importing.{inputs_to}
use Rattle.paper.specs.Spelling.{join, chance_line}
use Rattle.paper.specs.Exporting.{decimal, event_name, gate_name, input_name, right_side, gate_line, gate_lines, chance_lines, text_of}
use Rattle.records.specs.Flattened.{LawfulTree}
use Rattle.twins.proofs.Firsts.{firsts_length}
use Rattle.algebra.proofs.Lists.{in_flat}
use Rattle.lines.proofs.Spelling.{spelled_or, spelled_and, spelled_least, spelled_chance}
use Rattle.meaning.specs.Within.{LeastFits}
use Rattle.meaning.specs.Exported.{gate_says, gates_said, chances_said, lines_said, tree_again, chance_at, SaysAgain}
use Rattle.meaning.proofs.Decimals.{small, value_decimal}
use Rattle.meaning.proofs.Numerals.{nameable, every_append, decimal_number, decimal_plain, event_is_name, gate_is_name, event_plain, gate_plain}
use Rattle.meaning.proofs.Feeds.{lines_next, lines_none}
use Rattle.meaning.proofs.AgainNames.{below_at, lower_at, used_at}
use Rattle.meaning.proofs.Again.{says_again}
use Rattle.meaning.proofs.Rules.{Rules, rules_of}

-- ---- no line feed within a line

abbrev Plain : List ℕ → Type 0
Plain l = every (leb 32) l ≡ true

input_plain : (i : Input) → Plain (input_name i)
input_plain (event e) = event_plain e
input_plain (gate g) = gate_plain g
input_plain (forced e b) = event_plain e

join_plain : (sep : List ℕ) → Plain sep → (i : Input) (is : List Input) → Plain (join sep (input_name i) (map input_name is))
unfolding join
join_plain sep h i [] = input_plain i
join_plain sep h i (j ∷ is) =
    every_append (leb 32) (input_name i) (sep ++ join sep (input_name j) (map input_name is)) (input_plain i) (every_append (leb 32) sep (join sep (input_name j) (map input_name is)) h (join_plain sep h j is))

least_plain : (k : ℕ) (r : List ℕ) → Plain r → Plain (at_least_word ++ (decimal k ++ (in_word ++ r)))
least_plain k r h = every_append (leb 32) at_least_word (decimal k ++ (in_word ++ r)) refl (every_append (leb 32) (decimal k) (in_word ++ r) (decimal_plain k) (every_append (leb 32) in_word r refl h))

right_plain : (x : Gate) → Plain (right_side x (map input_name (inputs_to x)))
right_plain (and_g []) = refl
right_plain (and_g (i ∷ [])) = input_plain i
right_plain (and_g (i ∷ j ∷ is)) = join_plain and_word refl i (j ∷ is)
right_plain (or_g []) = refl
right_plain (or_g (i ∷ [])) = input_plain i
right_plain (or_g (i ∷ j ∷ is)) = join_plain or_word refl i (j ∷ is)
right_plain (least_g k []) = refl
right_plain (least_g k (i ∷ [])) = input_plain i
right_plain (least_g k (i ∷ j ∷ is)) = least_plain k (join comma (input_name i) (map input_name (j ∷ is))) (join_plain comma refl i (j ∷ is))

-- ---- a gate's line, without its line feed

abbrev line_by : ℕ → Gate → List ℕ
line_by g x = gate_name g ++ (equals ++ right_side x (map input_name (inputs_to x)))

line_plain : (g : ℕ) (x : Gate) → Plain (line_by g x)
line_plain g x = every_append (leb 32) (gate_name g) (equals ++ right_side x (map input_name (inputs_to x))) (gate_plain g) (every_append (leb 32) equals (right_side x (map input_name (inputs_to x))) refl (right_plain x))

line_feed_lem : (g : ℕ) (x : Gate) → gate_line g x ≡ line_by g x ++ line_feed
unfolding gate_line
line_feed_lem g x =
    ap (λ l. gate_name g ++ l) (sym (append_assoc equals (right_side x (map input_name (inputs_to x))) line_feed)) ∙ sym (append_assoc (gate_name g) (equals ++ right_side x (map input_name (inputs_to x))) line_feed)

-- ---- what it says

names_every : (is : List Input) → ((i : Input) → In i is → is_name (input_name i) ≡ true) → every is_name (map input_name is) ≡ true
names_every [] h = refl
names_every (i ∷ is) h = ap₂ ◌&&◌ (h i (inl refl)) (names_every is (λ j k. h j (inr k)))

-- a gate that can be typed: some input, a number k, names for inputs
record Typable (x : Gate) : Type 0 where
  some : 1 ≤ length (inputs_to x)
  few : length (inputs_to x) < small
  least : LeastFits x
  names : (i : Input) → In i (inputs_to x) → is_name (input_name i) ≡ true

gate_spelled : (g : ℕ) (x : Gate) → g < nameable → 1 ≤ length (inputs_to x) → length (inputs_to x) < small → LeastFits x → every is_name (map input_name (inputs_to x)) ≡ true
    → line_of (line_by g x) ≡ gate_says g x
unfolding join
gate_spelled g (and_g []) l a b f n = let z : ⊥ = omega arith in absurd z
gate_spelled g (and_g (i ∷ [])) l a b f n = spelled_or (gate_name g) (gate_is_name g l) (input_name i) [] n
gate_spelled g (and_g (i ∷ j ∷ is)) l a b f n = spelled_and (gate_name g) (gate_is_name g l) (input_name i) (input_name j) (map input_name is) n
gate_spelled g (or_g []) l a b f n = let z : ⊥ = omega arith in absurd z
gate_spelled g (or_g (i ∷ [])) l a b f n = spelled_or (gate_name g) (gate_is_name g l) (input_name i) [] n
gate_spelled g (or_g (i ∷ j ∷ is)) l a b f n = spelled_or (gate_name g) (gate_is_name g l) (input_name i) (map input_name (j ∷ is)) n
gate_spelled g (least_g k []) l a b f n = let z : ⊥ = omega arith in absurd z
gate_spelled g (least_g k (i ∷ [])) l a b f n = spelled_or (gate_name g) (gate_is_name g l) (input_name i) [] n
gate_spelled g (least_g k (i ∷ j ∷ is)) l a b f n =
    let q : k < small = omega (arith, f.1, firsts_length same_input (i ∷ j ∷ is)) in
    spelled_least (gate_name g) (gate_is_name g l) (decimal k) (decimal_number k q) (input_name i) (map input_name (j ∷ is)) n
    ∙ ap (λ m. equation (gate_name g) (at_least m) (map input_name (i ∷ j ∷ is))) (value_decimal k q)

gates_lines : (at g : ℕ) (xs : List Gate) (tail : List ℕ) → g + length xs ≤ nameable → ((x : Gate) → In x xs → Typable x)
    → lines_from at (gate_lines g xs ++ tail) ≡ gates_said at g xs ++ lines_from (at + length (gate_lines g xs)) tail
unfolding gate_lines
gates_lines at g [] tail h f = let q : at ≡ at + 0 = omega arith in ap (λ n. lines_from n tail) q
gates_lines at g (x ∷ xs) tail h f =
    let y = f x (inl refl) in
    let more = gate_lines (suc g) xs in
    let split : (gate_line g x ++ more) ++ tail ≡ line_by g x ++ (10 ∷ (more ++ tail)) = append_assoc (gate_line g x) more tail ∙ ap (λ l. l ++ (more ++ tail)) (line_feed_lem g x) ∙ append_assoc (line_by g x) line_feed (more ++ tail) in
    let long : length (gate_line g x) ≡ length (line_by g x) + 1 = ap length (line_feed_lem g x) ∙ length-append (line_by g x) line_feed in
    let next : at + length (line_by g x) + 1 ≡ at + length (gate_line g x) = omega arith in
    let end : at + length (gate_line g x) + length more ≡ at + length (gate_line g x ++ more) = omega (arith, length-append (gate_line g x) more) in
    ap (lines_from at) split ∙ lines_next at (line_by g x) (more ++ tail) (line_plain g x)
    ∙ ap₂ ◌∷◌ (ap (says at) (gate_spelled g x (omega arith) y.some y.few y.least (names_every (inputs_to x) y.names)))
    (ap (λ n. lines_from n (more ++ tail)) next ∙ gates_lines (at + length (gate_line g x)) (suc g) xs tail (omega arith) (λ z k. f z (inr k))
    ∙ ap (λ n. gates_said (at + length (gate_line g x)) (suc g) xs ++ lines_from n tail) end)

chances_lines : (at e : ℕ) (cs : List ℕ) → e + length cs ≤ nameable → ((c : ℕ) → In c cs → c < small) → lines_from at (chance_lines e cs) ≡ chances_said at e cs
unfolding chance_lines
chances_lines at e [] h f = lines_none at
chances_lines at e (c ∷ cs) h f =
    let line = chance_line (event_name e) (decimal c) in
    let plain : Plain line = every_append (leb 32) chance_word (event_name e ++ (blank ++ decimal c)) refl (every_append (leb 32) (event_name e) (blank ++ decimal c) (event_plain e) (decimal_plain c)) in
    let q : c < small = f c (inl refl) in
    ap (lines_from at) (append_assoc line line_feed (chance_lines (suc e) cs)) ∙ lines_next at line (chance_lines (suc e) cs) plain
    ∙ ap₂ ◌∷◌ (ap (says at) (spelled_chance (event_name e) (event_is_name e (omega arith)) (decimal c) (decimal_number c q) ∙ ap (chance (event_name e)) (value_decimal c q)))
    (chances_lines (at + length line + 1) (suc e) cs (omega arith) (λ z k. f z (inr k)))

module _ (t : Tree) (w : Rules limits t) where
  named : (g : ℕ) (i : Input) → g < length t.gates → In i (inputs_to (get_or t.gates g (or_g []))) → is_name (input_name i) ≡ true
  named g (event e) l h = let b = below_at (events t) t.gates w.whole.below g (event e) h in event_is_name e (omega (arith, w.within.few_events))
  named g (forced e x) l h = absurd (lower_at 0 t.gates w.whole.lower g (forced e x) h)
  named g (gate j) l h = let b : j < 0 + g = lower_at 0 t.gates w.whole.lower g (gate j) h in gate_is_name j (omega (arith, w.within.few_gates))

  typable : (x : Gate) → In x t.gates → Typable x
  typable x h = record {
    some = (w.within.sizes x h).0;
    few = omega (arith, (w.within.sizes x h).1);
    least = w.within.leasts x h;
    names = λ i k. by i (used_at t.gates i (in_flat inputs_to i x t.gates h k));
  }
    where
      by : (i : Input) → (g : ℕ) × (g < length t.gates) × In i (inputs_to (get_or t.gates g (or_g []))) → is_name (input_name i) ≡ true
      by i (g, l, k) = named g i l k

  lines_of_lem : lines_of (text_of t) ≡ lines_said t
  unfolding lines_of text_of lines_said
  lines_of_lem =
      let q : 0 + length (gate_lines 0 t.gates) ≡ length (gate_lines 0 t.gates) = omega arith in
      gates_lines 0 0 t.gates (chance_lines 0 t.chances) (omega (arith, w.within.few_gates)) typable
      ∙ ap (λ l. gates_said 0 0 t.gates ++ l)
      (ap (λ n. lines_from n (chance_lines 0 t.chances)) q ∙ chances_lines (length (gate_lines 0 t.gates)) 0 t.chances (omega (arith, w.within.few_events)) (λ c k. let b = w.within.chances c k in omega arith))

module _ (t : Tree) (w : LawfulTree limits t) where
  -- THE LINES of a lawful tree's text are its gate lines and then its chance lines
  pub text_lines : lines_of (text_of t) ≡ lines_said t
  text_lines = lines_of_lem t (rules_of w)

  -- IMPORTING THE EXPORT of a lawful tree: answered 0, with the same root function and chances up to the renumbering of events
  pub export_says_again : SaysAgain t (lines_of (text_of t))
  export_says_again = subst (SaysAgain t) (sym text_lines) (says_again t (rules_of w))

  -- ITS EXACT CHANCE is the tree's own, so the brackets of both enclose one number
  pub export_same_chance : total billion (chance_at (tree_again (lines_of (text_of t)) t)) (events t) 0 (root_fun (tree_again (lines_of (text_of t)) t).gates)
      ≡ total billion (chance_at t) (events t) 0 (root_fun t.gates)
  export_same_chance =
      let a = export_says_again in
      ap (λ n. total billion (chance_at (tree_again (lines_of (text_of t)) t)) n 0 (root_fun (tree_again (lines_of (text_of t)) t).gates)) (sym a.count) ∙ a.exact
