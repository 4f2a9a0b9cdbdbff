-- What the check of a lent table says of one node on its way, with the numbers that it read.
-- Assumes nothing.
use Rattle.std.specs.Prelude.{◌≡◌, Bool, true, ◌≢◌, List, ℕ, ◌≤◌, ◌<◌}
use Rattle.tables.specs.Table.{event_of}
use Rattle.tables.specs.Lent.{Above}

-- the nodes before node i have their events in range
abbrev pub Before : ℕ → List ℕ → ℕ → Type 0
Before n T i = (j : ℕ) → 2 ≤ j → j < i → event_of T j < n

-- node i with event e and failed branch f: all that its rules say of the two
pub record Failed (cut : Bool) (n : ℕ) (T : List ℕ) (i e f : ℕ) : Type 0 where
  pub event : e < n
  pub lower : f < i
  pub above : Above T e f
  pub some : cut ≡ true → f ≢ 0
