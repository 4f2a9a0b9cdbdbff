-- THE LIMITS OF A TREE, each said by itself: what it is that `broken` answers 0.
-- Assumes nothing.
use Rattle.std.specs.Prelude.{List, ℕ, ◌≤◌, length}
use Rattle.paper.specs.Limits.{Limits, billion}
use Rattle.paper.specs.Lists.{In, flat}
use Rattle.paper.specs.Trees.{Input, Gate, and_g, or_g, least_g, distinct_inputs, Tree, events}
use Rattle.paper.specs.Importing.{inputs_to}

-- at least k of n distinct inputs: k is 1 to n
abbrev pub LeastFits : Gate → Type 0
LeastFits (and_g is) = Unit {0}
LeastFits (or_g is) = Unit {0}
LeastFits (least_g k is) = (1 ≤ k) × (k ≤ length (distinct_inputs is))

-- the inputs of all gates, in a row
abbrev pub all_inputs : List Gate → List Input
all_inputs = flat inputs_to

-- NUMBERS 4, 5 AND 7: no count above its maximum, no gate without inputs, no wrong k, no chance above a billion
pub record Within (L : Limits) (t : Tree) : Type 0 where
  pub few_events : events t ≤ L.events
  pub chances : (c : ℕ) → In c t.chances → c ≤ billion
  pub few_gates : length t.gates ≤ L.gates
  pub sizes : (x : Gate) → In x t.gates → (1 ≤ length (inputs_to x)) × (length (inputs_to x) ≤ L.inputs)
  pub leasts : (x : Gate) → In x t.gates → LeastFits x
  pub few_inputs : length (all_inputs t.gates) ≤ L.in_all
