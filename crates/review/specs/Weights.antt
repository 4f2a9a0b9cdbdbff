-- What is weighed of each node, from the lowest up: the fewest members of a set below it, and which of its branches has the likeliest set.
-- Assumes nothing.
use Rattle.std.specs.Prelude.{◌≡◌, List, ℕ, zero, suc, ◌+◌, ◌-◌, ◌≤◌, ◌<◌, length, get_or}
use Rattle.paper.specs.Limits.{billion}
use Rattle.algebra.specs.Reports.{Way, fewest, with, likeliest}
use Rattle.tables.specs.Table.{event_of, failed_of, sound_of, den}
use Rattle.bracket.specs.Bracketed.{chance_in, Chances}

-- the likeliest set below node i of the table T, for the chances A
unfoldable pub likeliest_at : List ℕ → List ℕ → ℕ → Way
likeliest_at A T i = likeliest billion (chance_in A) (den T i)

-- with one event more
abbrev pub with_event : List ℕ → ℕ → Way → Way
with_event A e w = with billion (chance_in A) e w

-- the number of node i in a work area: slot k has that of node k + 2
unfoldable pub few_in : List ℕ → ℕ → ℕ
few_in F zero = 3
few_in F (suc zero) = 0
few_in F (suc (suc k)) = get_or F k 0

-- the fewest members are known of all nodes below i, of c
pub record Fews (T F : List ℕ) (c i : ℕ) : Type 0 where
  pub room : c ≤ length F
  pub each : (j : ℕ) → j < i → few_in F j ≡ fewest (den T j)

-- p tells where the likeliest set below node j is: under its failed branch, or, if p is 0, under its sound one
pub record Picked (A T : List ℕ) (j p : ℕ) : Type 0 where
  pub failed : 0 < p → likeliest_at A T j ≡ with_event A (event_of T j) (likeliest_at A T (failed_of T j))
  pub sound : p ≡ 0 → likeliest_at A T j ≡ likeliest_at A T (sound_of T j)

-- that is known of all nodes below i, of c, and the n chances are fair
pub record Picks (n : ℕ) (A T W : List ℕ) (c i : ℕ) : Type 0 where
  pub enough : n ≤ length A
  pub chances : Chances n A
  pub room : c ≤ length W
  pub each : (j : ℕ) → 2 ≤ j → j < i → Picked A T j (get_or W (j - 2) 0)

-- both of all nodes
pub record Weighed (n : ℕ) (A T F W : List ℕ) (c : ℕ) : Type 0 where
  pub fews : Fews T F c (c + 2)
  pub picks : Picks n A T W c (c + 2)
