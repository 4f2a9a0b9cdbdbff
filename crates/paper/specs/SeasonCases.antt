-- Stores, and trees under their settings, held against the definitions: one table, one statement.
-- Assumes nothing.
use Rattle.std.specs.Prelude.{◌≡◌, refl, List, [], ◌∷◌, ◌++◌, map, ℕ, zero, suc, ◌*◌, ◌^◌, get_or}
use Rattle.std.proofs.Math.Decide.{ℕ_discrete}
use Rattle.paper.specs.Limits.{billion}
use Rattle.paper.specs.Sets.{members}
use Rattle.paper.specs.Functions.{Fun, depends_on}
use Rattle.paper.specs.Trees.{event, gate, Gate, and_g, or_g, least_g, Tree, events, gate_funs, root_fun}
use Rattle.paper.specs.Steps.{step_funs}
use Rattle.paper.specs.Nodes.{nodes_needed, nodes_of}
use Rattle.paper.specs.Diagrams.{Diagram, diagram_of}
use Rattle.paper.specs.Cuts.{cut_list, cut_nodes_needed}
use Rattle.paper.specs.Chance.{total, low, high}
use Rattle.paper.specs.Answers.{cut_nodes_of}
use Rattle.paper.specs.Store.{entries, torn, judge_from, judge_store, settings_of}
use Rattle.paper.specs.Forcing.{force_tree}

data Answer : Type 0 where
  refused : (number place : ℕ) → Answer
  -- nodes and cut nodes needed, the cuts, L, low and high, and the exact sum
  done : (nodes cut_nodes : ℕ) (cuts : List (List ℕ)) (L lo hi exact : ℕ) → Answer

record Row : Type 0 where
  tree : Tree
  asked : ℕ
  store : List ℕ
  answered : Answer

-- ---- what the definitions say

of : Tree → Answer
of t =
    let n : ℕ = events t in
    let F : Fun = root_fun t.gates in
    let a : ℕ → ℕ = λ i. get_or t.chances i 0 in
    let d : Diagram = diagram_of n 0 F in
    done (nodes_of t) (cut_nodes_of t) (map (members n) (cut_list n F)) (depends_on n F) (low billion a d) (high billion a d) (total billion a n 0 F)

define : Tree → ℕ → List ℕ → Answer
define t asked store = elim (judge_store (events t) store).number [ zero ↦ of (force_tree (settings_of asked store) t) | suc k ↦ refused (suc k) (judge_store (events t) store).place ]

-- ---- what is expected

tenth : ℕ
tenth = 100_000_000

three : List Gate → Tree
three gs = record { chances = tenth ∷ tenth ∷ tenth ∷ []; gates = gs }

two_of_three : Tree
two_of_three = three (least_g 2 (event 0 ∷ event 1 ∷ event 2 ∷ []) ∷ [])

some : Tree
some = three (or_g (event 0 ∷ event 1 ∷ event 2 ∷ []) ∷ [])

-- (e0 and e1) or (e1 and e2)
first : Tree
first = three (and_g (event 0 ∷ event 1 ∷ []) ∷ and_g (event 1 ∷ event 2 ∷ []) ∷ or_g (gate 0 ∷ gate 1 ∷ []) ∷ [])

-- edition, event, state
set : ℕ → ℕ → ℕ → List ℕ
set edition e state = 0x31 ∷ edition ∷ 0 ∷ e ∷ 0 ∷ state ∷ []

row : Tree → ℕ → List ℕ → Answer → Row
row t asked store a = record { tree = t; asked = asked; store = store; answered = a }

table : List Row
table =
    -- no record: the answer without settings
    row two_of_three 0 [] (done 7 4 ((0 ∷ 1 ∷ []) ∷ (0 ∷ 2 ∷ []) ∷ (1 ∷ 2 ∷ []) ∷ []) 3 28_000_000 28_000_000 (28_000_000 * billion ^ 2))
    -- 2 of 3 with one failed is the or of the others; with one sound, their and
    ∷ row two_of_three 1 (set 1 0 1) (done 4 2 ((1 ∷ []) ∷ (2 ∷ []) ∷ []) 2 190_000_000 190_000_000 (190_000_000 * billion ^ 2))
    ∷ row two_of_three 1 (set 1 0 2) (done 4 2 ((1 ∷ 2 ∷ []) ∷ []) 2 10_000_000 10_000_000 (10_000_000 * billion ^ 2))
    -- two forced events are two inputs
    ∷ row two_of_three 1 (set 1 0 1 ++ set 1 1 1) (done 1 0 ([] ∷ []) 0 billion billion (billion ^ 3))
    -- before its edition the record says nothing; state 0 frees again
    ∷ row two_of_three 0 (set 1 0 1) (done 7 4 ((0 ∷ 1 ∷ []) ∷ (0 ∷ 2 ∷ []) ∷ (1 ∷ 2 ∷ []) ∷ []) 3 28_000_000 28_000_000 (28_000_000 * billion ^ 2))
    ∷ row two_of_three 2 (set 1 0 1 ++ set 2 0 0) (done 7 4 ((0 ∷ 1 ∷ []) ∷ (0 ∷ 2 ∷ []) ∷ (1 ∷ 2 ∷ []) ∷ []) 3 28_000_000 28_000_000 (28_000_000 * billion ^ 2))
    ∷ row two_of_three 1 (set 1 0 1 ++ set 2 0 0) (done 4 2 ((1 ∷ []) ∷ (2 ∷ []) ∷ []) 2 190_000_000 190_000_000 (190_000_000 * billion ^ 2))
    -- of two records of one edition the last decides
    ∷ row two_of_three 1 (set 1 0 1 ++ set 1 0 2) (done 4 2 ((1 ∷ 2 ∷ []) ∷ []) 2 10_000_000 10_000_000 (10_000_000 * billion ^ 2))
    -- the root fails for certain: events behind the forced one are still steps
    ∷ row some 1 (set 1 0 1) (done 2 0 ([] ∷ []) 0 billion billion (billion ^ 3))
    ∷ row some 1 (set 1 2 1) (done 3 0 ([] ∷ []) 0 billion billion (billion ^ 3))
    -- it can't fail: the family is none, and what is left of the gates before counts
    ∷ row first 1 (set 1 1 2) (done 2 0 [] 0 0 0 0)
    -- all events forced: no node
    ∷ row first 1 (set 1 0 1 ++ set 1 1 1 ++ set 1 2 2) (done 0 0 ([] ∷ []) 0 billion billion (billion ^ 3))
    -- records above the asked edition are judged too; 24 before 13 in a record, and the first faulty record decides
    ∷ row some 0 (set 9 3 1) (refused 13 0)
    ∷ row some 0 (set 9 3 3) (refused 24 0)
    ∷ row some 0 (set 2 0 1 ++ set 1 0 1) (refused 24 6)
    ∷ row some 0 (set 2 0 1 ++ set 2 3 1 ++ set 1 0 1) (refused 13 6)
    ∷ row some 0 (set 2 0 1 ++ (0x31 ∷ 0 ∷ [])) (refused 24 6)
    ∷ row some 0 (0x32 ∷ 0 ∷ 0 ∷ 0 ∷ 0 ∷ 0 ∷ []) (refused 24 0)
    ∷ []

-- THE CASES
as_expected : map (λ r. define r.tree r.asked r.store) table ≡ map (λ r. r.answered) table
unfolding of define tenth three two_of_three some first set row table
    entries torn judge_from judge_store settings_of step_funs gate_funs root_fun nodes_needed cut_list cut_nodes_needed depends_on total ℕ_discrete
as_expected = refl
