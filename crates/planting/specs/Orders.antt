-- THE TREE OF AN ORDER OF NAMES. S and I are the equations of the names; the first `left` numbers of Q are names in the order in which the walk
-- leaves them. By name: G the chances, N the numbers of events and of gates, K the kinds (2 and, 3 or, 4 at least), L the k.
-- Assumes nothing.
use Rattle.std.specs.Prelude.{cond, List, map, ℕ, ◌<◌, ◌≤◌, length, get_or, take}
use Rattle.paper.specs.Lists.{In}
use Rattle.paper.specs.Trees.{Input, event, gate, Gate, Tree}
use Rattle.paper.specs.Flat.{gate_of}
use Rattle.paper.specs.Walks.{is_event, events_of, gates_of}
use Rattle.depthfirst.specs.Inputs.{inputs_of, Arrays}
use Rattle.depthfirst.specs.Answers.{Numberable, InTurn}

-- the input that name y is
abbrev pub input_at : (S I N : List ℕ) → ℕ → Input
input_at S I N y = cond (is_event (inputs_of S I y)) (event (get_or N y 0)) (gate (get_or N y 0))

-- the gate that name x is
unfoldable pub gate_at : (S I N K L : List ℕ) → ℕ → Gate
gate_at S I N K L x = gate_of (get_or K x 0) (get_or L x 0) (map (input_at S I N) (inputs_of S I x))

-- the chances of the events among some names, and the gates among them
unfoldable pub chances_among : (S I G : List ℕ) → List ℕ → List ℕ
chances_among S I G l = map (λ x. get_or G x 0) (events_of (inputs_of S I) l)

unfoldable pub gates_among : (S I N K L : List ℕ) → List ℕ → List Gate
gates_among S I N K L l = map (gate_at S I N K L) (gates_of (inputs_of S I) l)

abbrev pub tree_among : (S I G N K L : List ℕ) → List ℕ → Tree
tree_among S I G N K L l = record { chances = chances_among S I G l; gates = gates_among S I N K L l }

-- the order has names of n alone, and each of these has a chance
pub record Sowable (S I : List ℕ) (n : ℕ) (Q : List ℕ) (left : ℕ) (G : List ℕ) : Type 0 where
  pub arrays : Arrays S I n
  pub inside : left ≤ length Q
  pub low : (z : ℕ) → In z (take left Q) → z < n
  pub chances : n ≤ length G

-- the order's names are numbered, events and gates each from 0 on; each of the n names has a kind and a k
pub record Plantable (S I : List ℕ) (n : ℕ) (Q : List ℕ) (left : ℕ) (N K L : List ℕ) : Type 0 where
  pub numbered : Numberable S I n Q left N
  pub event_turn : InTurn N (events_of (inputs_of S I) (take left Q))
  pub gate_turn : InTurn N (gates_of (inputs_of S I) (take left Q))
  pub kinds : n ≤ length K
  pub leasts : n ≤ length L
  pub known : (x : ℕ) → In x (gates_of (inputs_of S I) (take left Q)) → (2 ≤ get_or K x 0) × (get_or K x 0 ≤ 4)
