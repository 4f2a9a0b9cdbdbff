-- THE LINES OF A TREE'S TEXT, each with its place; and what it is that the text says the tree again, its events renumbered.
-- Assumes nothing.
use Rattle.std.specs.Prelude.{◌≡◌, false, cond, List, [], ◌∷◌, ◌++◌, map, ℕ, suc, ◌+◌, ◌-◌, ◌<◌, ltb, length, get_or}
use Rattle.paper.specs.Limits.{billion}
use Rattle.paper.specs.Sets.{Set}
use Rattle.paper.specs.Trees.{Input, Gate, and_g, or_g, least_g, Tree, events, root_fun}
use Rattle.paper.specs.Cuts.{MinimalCut}
use Rattle.paper.specs.Chance.{total}
use Rattle.paper.specs.Grammar.{Line, chance, equation, Connective, by_or, by_and, at_least}
use Rattle.paper.specs.Texts.{Placed, says}
use Rattle.paper.specs.Equations.{dict_in, number_of}
use Rattle.paper.specs.Meaning.{event_names, place_in, tree_said}
use Rattle.paper.specs.Importing.{inputs_to, Rooted, Says}
use Rattle.paper.specs.Spelling.{chance_line}
use Rattle.paper.specs.Exporting.{decimal, event_name, gate_name, input_name, gate_line, gate_lines}

-- ---- the lines

abbrev pub connective_by : Gate → Connective
connective_by (and_g is) = by_and
connective_by (or_g is) = by_or
connective_by (least_g k is) = at_least k

-- a gate of one input is that input: an or
abbrev pub connective_for : Gate → List Input → Connective
connective_for x [] = connective_by x
connective_for x (i ∷ []) = by_or
connective_for x (i ∷ j ∷ is) = connective_by x

abbrev pub gate_says : ℕ → Gate → Line
gate_says g x = equation (gate_name g) (connective_for x (inputs_to x)) (map input_name (inputs_to x))

-- the lines of the gates from number g on, and of the chances from event e on, the first at place `at`
abbrev pub gates_said : ℕ → ℕ → List Gate → List Placed
gates_said at g [] = []
gates_said at g (x ∷ xs) = says at (gate_says g x) ∷ gates_said (at + length (gate_line g x)) (suc g) xs

abbrev pub chances_said : ℕ → ℕ → List ℕ → List Placed
chances_said at e [] = []
chances_said at e (c ∷ cs) = says at (chance (event_name e) c) ∷ chances_said (at + length (chance_line (event_name e) (decimal c)) + 1) (suc e) cs

-- THE LINES: gate by gate, then every chance
unfoldable pub lines_said : Tree → List Placed
lines_said t = gates_said 0 0 t.gates ++ chances_said (length (gate_lines 0 t.gates)) 0 t.chances

-- ---- the tree again

-- the root's number among the names, and the number that event e gets
abbrev pub root_in : List Placed → Tree → ℕ
root_in ls t = number_of (gate_name (length t.gates - 1)) (dict_in ls)

abbrev pub event_in : List Placed → Tree → ℕ → ℕ
event_in ls t e = place_in (number_of (event_name e) (dict_in ls)) (event_names ls (root_in ls t))

abbrev pub tree_again : List Placed → Tree → Tree
tree_again ls t = tree_said ls (root_in ls t)

-- a set of the events as they are numbered again, by the numbers they had
abbrev pub set_in : List Placed → Tree → Set → Set
set_in ls t S e = cond (ltb e (events t)) (S (event_in ls t e)) false

-- the chance of event e, in billionths; and the exact chance of the root, in parts of a billion to the number of events
abbrev pub chance_at : Tree → ℕ → ℕ
chance_at t e = get_or t.chances e 0

abbrev pub exact_chance : Tree → ℕ
exact_chance t = total billion (chance_at t) (events t) 0 (root_fun t.gates)

-- THE TREE AGAIN: these lines are answered 0; each event has one number and each number one event, its chance is kept, and so are the root's
-- function, its minimal cuts and its exact chance. Both trees' brackets enclose that one number; their two whole numbers may differ, for they are
-- rounded event by event, in the order of the events' numbers
pub record SaysAgain (t : Tree) (ls : List Placed) : Type 0 where
  pub answer : Says ls 0 0
  pub rooted : Rooted ls (root_in ls t)
  pub low : (e : ℕ) → e < events t → event_in ls t e < events (tree_again ls t)
  pub apart : (e f : ℕ) → e < events t → f < events t → event_in ls t e ≡ event_in ls t f → e ≡ f
  pub onto : (i : ℕ) → i < events (tree_again ls t) → (e : ℕ) × (e < events t) × (event_in ls t e ≡ i)
  pub count : events (tree_again ls t) ≡ events t
  pub chances : (e : ℕ) → e < events t → chance_at (tree_again ls t) (event_in ls t e) ≡ chance_at t e
  pub function : (v : Set) → root_fun (tree_again ls t).gates v ≡ root_fun t.gates (λ e. v (event_in ls t e))
  pub cuts : (S : Set) → MinimalCut (root_fun (tree_again ls t).gates) S → MinimalCut (root_fun t.gates) (set_in ls t S)
  pub all_cuts : (S : Set) → MinimalCut (root_fun t.gates) S → (T : Set) × MinimalCut (root_fun (tree_again ls t).gates) T × (set_in ls t T ≡ S)
  pub exact : exact_chance (tree_again ls t) ≡ exact_chance t
