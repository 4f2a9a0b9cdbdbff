-- What the pass over the nodes stores: the number of each node, by one of the two roundings.
-- Assumes nothing.
use Rattle.std.specs.Prelude.{◌≡◌, false, List, ℕ, zero, suc, ◌+◌, ◌-◌, ◌*◌, ◌/◌, ◌≤◌, ◌<◌, length, get_or}
use Rattle.paper.specs.Limits.{billion}
use Rattle.paper.specs.Chance.{bound}
use Rattle.tables.specs.Table.{den}
use Rattle.tables.specs.Lent.{Lent}
use Rattle.bracket.specs.Bracketed.{chance_in, Chances}

-- the number of node i of the table T by the rounding r: 0 is down, D - 1 is up
unfoldable pub number_of : ℕ → List ℕ → List ℕ → ℕ → ℕ
number_of r A T i = bound billion (chance_in A) r (den T i)

-- the number of node i in a work area: slot k has that of node k + 2
unfoldable pub number_in : List ℕ → ℕ → ℕ
number_in W zero = 0
number_in W (suc zero) = billion
number_in W (suc (suc k)) = get_or W k 0

-- the number of a node whose event has the chance a and whose branches are f and s, by the rounding r
abbrev pub mixed_in : List ℕ → ℕ → ℕ → ℕ → ℕ → ℕ
mixed_in W f s a r = (a * number_in W f + (billion - a) * number_in W s + r) / billion

-- the work area has the numbers of all nodes below i
pub record Filled (r : ℕ) (A T W : List ℕ) (i : ℕ) : Type 0 where
  pub at : (j : ℕ) → j < i → number_in W j ≡ number_of r A T j

-- a diagram that passed 12, with chances that passed 9 and 7
pub record Priced (n : ℕ) (T : List ℕ) (c root : ℕ) (A : List ℕ) : Type 0 where
  pub lent : Lent false n T c root
  pub enough : n ≤ length A
  pub chances : Chances n A

-- the number of node i can be stored: its branches are lower, and all that it is made of is at most D
pub record Ready (W : List ℕ) (i f s a r : ℕ) : Type 0 where
  pub node : 2 ≤ i
  pub room : i - 2 < length W
  pub failed : f < i
  pub sound : s < i
  pub chance : a ≤ billion
  pub round : r < billion
  pub failed_number : number_in W f ≤ billion
  pub sound_number : number_in W s ≤ billion
