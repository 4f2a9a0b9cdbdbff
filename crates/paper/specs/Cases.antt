-- The paper's cases 1 to 8, the counts of small gates beside them, and twins, held against the definitions: one table, one statement.
-- Assumes nothing.
use Rattle.std.specs.Prelude.{◌≡◌, refl, Bool, true, false, cond, List, [], ◌∷◌, map, ℕ, zero, suc, ◌+◌, ◌*◌, ◌^◌, ◌≤◌, ◌<◌, ltb, length, get_or}
use Rattle.std.proofs.Math.Decide.{ℕ_discrete}
use Rattle.std.proofs.Common.{arith}
use Rattle.paper.specs.Limits.{billion}
use Rattle.paper.specs.Lists.{up_to}
use Rattle.paper.specs.Sets.{Set, none, members, of_events}
use Rattle.paper.specs.Functions.{Fun, agree, depends_on}
use Rattle.paper.specs.Trees.{event, gate, Gate, and_g, or_g, least_g, Tree, events, const_f, gate_funs, root_fun}
use Rattle.paper.specs.Steps.{step_funs}
use Rattle.paper.specs.Nodes.{nodes_needed, nodes_to_gate, nodes_of, nodes_added}
use Rattle.paper.specs.Diagrams.{Diagram, leaf, node, diagram_of}
use Rattle.paper.specs.Cuts.{sets_of, cut_list, cut_nodes_needed}
use Rattle.paper.specs.Order.{from_start}
use Rattle.paper.specs.Listing.{member, member_bytes, cut_bytes, sets_bytes, fitting, Listed, listed}
use Rattle.paper.specs.Chance.{total, low, high, standing}
use Rattle.paper.specs.Answers.{FilledAt, cut_nodes_of}

-- what can be asked of a tree
data Question : Type 0 where
  nodes : Question
  cut_nodes : Question
  -- how many nodes each gate adds
  added : Question
  -- the number with which a table of this capacity is answered
  node_table : ℕ → Question
  cut_table : ℕ → Question
  cuts : Question
  -- a listing in a room of so many bytes, from the beginning, or after a set
  list : ℕ → Question
  list_after : List ℕ → ℕ → Question
  -- L by the root's diagram and by its function, low, high, and the exact sum
  chance : Question
  -- do two gates agree on every set?
  agreeing : ℕ → ℕ → Question

data Answer : Type 0 where
  number : ℕ → Answer
  numbers : List ℕ → Answer
  sets : List (List ℕ) → Answer
  listing : (answer : ℕ) (cuts : List (List ℕ)) (bytes : List ℕ) (finished : Bool) → Answer
  bracket : (L depends low high exact : ℕ) → Answer
  said : Bool → Answer

record Row : Type 0 where
  tree : Tree
  asked : Question
  answered : Answer

-- ---- what the definitions say

full : ℕ → ℕ → ℕ → Answer
full refusal capacity needed = number (cond (ltb capacity needed) refusal 0)

listing_of : ℕ → Listed → Answer
listing_of n r = listing r.number (map (members n) r.written) (sets_bytes n r.written) r.finished

bracket_of : Tree → Diagram → Answer
bracket_of t d =
    let a : ℕ → ℕ = λ i. get_or t.chances i 0 in
    bracket (standing (events t) 0 d) (depends_on (events t) (root_fun t.gates)) (low billion a d) (high billion a d) (total billion a (events t) 0 (root_fun t.gates))

gate_of : Tree → ℕ → Fun
gate_of t g = get_or (gate_funs t.gates) g (const_f false)

cuts_of : Tree → List Set
cuts_of t = cut_list (events t) (root_fun t.gates)

define : Tree → Question → Answer
define t nodes = number (nodes_of t)
define t cut_nodes = number (cut_nodes_of t)
define t added = numbers (map (nodes_added t) (up_to (length t.gates) 0))
define t (node_table c) = full 10 c (nodes_of t)
define t (cut_table c) = full 11 c (cut_nodes_of t)
define t cuts = sets (map (members (events t)) (cuts_of t))
define t (list room) = listing_of (events t) (listed (events t) room (from_start true (events t) none (cuts_of t)))
define t (list_after s room) = listing_of (events t) (listed (events t) room (from_start false (events t) (of_events s) (cuts_of t)))
define t chance = bracket_of t (diagram_of (events t) 0 (root_fun t.gates))
define t (agreeing i j) = said (agree (events t) (gate_of t i) (gate_of t j))

-- ---- what the paper says

unfoldable pub tenth : ℕ
tenth = 100_000_000

unfoldable pub three : List Gate → Tree
three gs = record { chances = tenth ∷ tenth ∷ tenth ∷ []; gates = gs }

two : List Gate → Tree
two gs = record { chances = tenth ∷ tenth ∷ []; gates = gs }

-- document 000, example 1: (c1 and c2) or (c2 and c3); and example 6: (a or c) and (b or c)
unfoldable pub first : Tree
first = three (and_g (event 0 ∷ event 1 ∷ []) ∷ and_g (event 1 ∷ event 2 ∷ []) ∷ or_g (gate 0 ∷ gate 1 ∷ []) ∷ [])

sixth : Tree
sixth = three (or_g (event 0 ∷ event 2 ∷ []) ∷ or_g (event 1 ∷ event 2 ∷ []) ∷ and_g (gate 0 ∷ gate 1 ∷ []) ∷ [])

-- a or (a and b)
absorbed : Tree
absorbed = two (and_g (event 0 ∷ event 1 ∷ []) ∷ or_g (event 0 ∷ gate 0 ∷ []) ∷ [])

unfoldable pub two_of_three : Tree
two_of_three = three (least_g 2 (event 0 ∷ event 1 ∷ event 2 ∷ []) ∷ [])

reversed : Tree
reversed = three (least_g 2 (event 2 ∷ event 1 ∷ event 0 ∷ []) ∷ [])

-- at least 1, or, at least 3, and: each of the same three events
four_gates : Tree
four_gates = three (
    least_g 1 (event 0 ∷ event 1 ∷ event 2 ∷ []) ∷ or_g (event 0 ∷ event 1 ∷ event 2 ∷ [])
    ∷ least_g 3 (event 0 ∷ event 1 ∷ event 2 ∷ []) ∷ and_g (event 0 ∷ event 1 ∷ event 2 ∷ []) ∷ [])

one : Gate → Tree
one g = three (g ∷ [])

rare : Tree
rare = record { chances = 1 ∷ 1 ∷ []; gates = and_g (event 0 ∷ event 1 ∷ []) ∷ [] }

-- at least 2 of a, a and b; of two gates with one function, and b; of an event and the gate of its number
twins : Tree
twins = two (least_g 2 (event 0 ∷ event 0 ∷ event 1 ∷ []) ∷ [])

one_function : Tree
one_function = two (or_g (event 0 ∷ []) ∷ and_g (event 0 ∷ []) ∷ least_g 2 (gate 0 ∷ gate 1 ∷ event 1 ∷ []) ∷ [])

one_number : Tree
one_number = two (or_g (event 1 ∷ []) ∷ least_g 2 (event 0 ∷ gate 0 ∷ []) ∷ [])

row : Tree → Question → Answer → Row
row t q a = record { tree = t; asked = q; answered = a }

table : List Row
table =
    -- 1
    row first nodes (number 6)
    ∷ row first cut_nodes (number 4)
    ∷ row first added (numbers (3 ∷ 2 ∷ 1 ∷ []))
    ∷ row first (node_table 5) (number 10)
    ∷ row first (node_table 6) (number 0)
    ∷ row first (cut_table 3) (number 11)
    ∷ row first (cut_table 4) (number 0)
    ∷ row first cuts (sets ((0 ∷ 1 ∷ []) ∷ (1 ∷ 2 ∷ []) ∷ []))
    ∷ row first chance (bracket 3 3 19_000_000 19_000_000 (19_000_000 * billion ^ 2))
    -- 2
    ∷ row first (list 4) (listing 14 [] [] false)
    ∷ row first (list 5) (listing 0 ((0 ∷ 1 ∷ []) ∷ []) (0x21 ∷ 0x00 ∷ 0x21 ∷ 0x01 ∷ 0x22 ∷ []) false)
    ∷ row first (list 9) (listing 0 ((0 ∷ 1 ∷ []) ∷ []) (0x21 ∷ 0x00 ∷ 0x21 ∷ 0x01 ∷ 0x22 ∷ []) false)
    ∷ row first (list 10) (listing 0 ((0 ∷ 1 ∷ []) ∷ (1 ∷ 2 ∷ []) ∷ [])
    (0x21 ∷ 0x00 ∷ 0x21 ∷ 0x01 ∷ 0x22 ∷ 0x21 ∷ 0x01 ∷ 0x21 ∷ 0x02 ∷ 0x22 ∷ []) true)
    -- 3
    ∷ row first (list_after (0 ∷ []) 5) (listing 0 ((1 ∷ 2 ∷ []) ∷ []) (0x21 ∷ 0x01 ∷ 0x21 ∷ 0x02 ∷ 0x22 ∷ []) true)
    ∷ row first (list_after (1 ∷ 2 ∷ []) 0) (listing 0 [] [] true)
    -- 4
    ∷ row sixth nodes (number 6)
    ∷ row sixth cut_nodes (number 4)
    ∷ row sixth cuts (sets ((0 ∷ 1 ∷ []) ∷ (2 ∷ []) ∷ []))
    ∷ row sixth chance (bracket 3 3 109_000_000 109_000_000 (109_000_000 * billion ^ 2))
    -- 5
    ∷ row absorbed cuts (sets ((0 ∷ []) ∷ []))
    ∷ row absorbed nodes (number 3)
    ∷ row absorbed cut_nodes (number 1)
    ∷ row absorbed added (numbers (3 ∷ 0 ∷ []))
    ∷ row absorbed chance (bracket 1 1 tenth tenth (tenth * billion))
    -- 6
    ∷ row two_of_three cuts (sets ((0 ∷ 1 ∷ []) ∷ (0 ∷ 2 ∷ []) ∷ (1 ∷ 2 ∷ []) ∷ []))
    ∷ row two_of_three chance (bracket 3 3 28_000_000 28_000_000 (28_000_000 * billion ^ 2))
    ∷ row two_of_three nodes (number 7)
    ∷ row reversed nodes (number 9)
    -- 7
    ∷ row four_gates (agreeing 0 1) (said true)
    ∷ row four_gates (agreeing 2 3) (said true)
    ∷ row four_gates (agreeing 0 2) (said false)
    ∷ row (one (least_g 1 (event 0 ∷ event 1 ∷ event 2 ∷ []))) nodes (number 5)
    ∷ row (one (or_g (event 0 ∷ event 1 ∷ event 2 ∷ []))) nodes (number 6)
    ∷ row (one (least_g 3 (event 0 ∷ event 1 ∷ event 2 ∷ []))) nodes (number 5)
    ∷ row (one (and_g (event 0 ∷ event 1 ∷ event 2 ∷ []))) nodes (number 6)
    -- 8
    ∷ row rare chance (bracket 2 2 0 1 1)
    -- a twin counts once
    ∷ row twins cuts (sets ((0 ∷ 1 ∷ []) ∷ []))
    ∷ row twins nodes (number 3)
    ∷ row one_function cuts (sets ((0 ∷ []) ∷ []))
    ∷ row one_number cuts (sets ((0 ∷ 1 ∷ []) ∷ []))
    ∷ []

-- THE CASES
as_the_paper_says : map (λ r. define r.tree r.asked) table ≡ map (λ r. r.answered) table
unfolding define full listing_of bracket_of gate_of cuts_of tenth three two first sixth absorbed two_of_three reversed four_gates one rare twins one_function one_number row table
    gate_funs root_fun step_funs nodes_needed cut_list cut_nodes_needed depends_on member member_bytes cut_bytes of_events fitting listed total ℕ_discrete
as_the_paper_says = refl

-- where tables with room for 5, 4 and 2 nodes are full
as_the_gates_fill : FilledAt first 5 2 × FilledAt first 4 1 × FilledAt first 2 0
unfolding first three step_funs nodes_needed
as_the_gates_fill = (
  record { inside = omega arith; over = omega arith; least = λ h q. at_2 h q },
  record { inside = omega arith; over = omega arith; least = λ h q. at_1 h q },
  record { inside = omega arith; over = omega arith; least = λ h q. omega arith },
)
  where
    at_2 : (h : ℕ) → 5 < nodes_to_gate first (h + 1) → 2 ≤ h
    at_2 zero q = absurd (omega arith)
    at_2 (suc zero) q = absurd (omega arith)
    at_2 (suc (suc h)) q = omega arith

    at_1 : (h : ℕ) → 4 < nodes_to_gate first (h + 1) → 1 ≤ h
    at_1 zero q = absurd (omega arith)
    at_1 (suc h) q = omega arith

-- document 002, 4.3: figure 1 without its node of failed branch 0 is {a}, {c}; figure 2 is {a} and the empty set
as_the_figures_say : map (λ d. map (members 3) (sets_of d)) (node 0 (leaf true) (node 2 (leaf true) (leaf false)) ∷ node 0 (leaf true) (leaf true) ∷ [])
    ≡ ((0 ∷ []) ∷ (2 ∷ []) ∷ []) ∷ ((0 ∷ []) ∷ [] ∷ []) ∷ []
as_the_figures_say = refl

-- events 255, 256 and 257 in one cut
as_wide_members_are_listed : cut_bytes (255 ∷ 256 ∷ 257 ∷ []) ≡ 0x21 ∷ 0xFF ∷ 0x23 ∷ 0x00 ∷ 0x01 ∷ 0x23 ∷ 0x01 ∷ 0x01 ∷ 0x22 ∷ []
unfolding member member_bytes cut_bytes
as_wide_members_are_listed = refl
