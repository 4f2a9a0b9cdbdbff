-- From a set to the set of the next cut: what stays, and how far the new events reach.
-- Assumes nothing.
use Rattle.std.specs.Prelude.{◌≡◌, true, List, ℕ, suc, ◌≤◌, ◌<◌, length}
use Rattle.paper.specs.Sets.{Set, Within, members}
use Rattle.tables.specs.Table.{event_of}

-- the set of a path to the node `at`: its events are below low, and the node's is not
pub record Parts (n : ℕ) (T : List ℕ) (S : Set) (at low : ℕ) : Type 0 where
  pub inside : low < n
  pub below : Within low S
  pub above : 2 ≤ at → low ≤ event_of T at

-- the way up: S' has the events of S below low; S holds low
pub record Shorter (S S' : Set) (low : ℕ) : Type 0 where
  pub held : S low ≡ true
  pub same : (j : ℕ) → j < low → S' j ≡ S j

-- the way down: S' has the events of S below low, and none above high
pub record Longer (n : ℕ) (S S' : Set) (low high : ℕ) : Type 0 where
  pub same : (j : ℕ) → j < low → S' j ≡ S j
  pub rise : low ≤ high
  pub inside : high < n
  pub within : Within (suc high) S'

-- both: S' is the set of the cut after that of S; `kept` of its members are below low
pub record Follows (n : ℕ) (S S' : Set) (kept low high : ℕ) : Type 0 where
  pub held : S low ≡ true
  pub same : (j : ℕ) → j < low → S' j ≡ S j
  pub many : kept ≡ length (members low S')
  pub rise : low ≤ high
  pub inside : high < n
  pub within : Within (suc high) S'

-- the first cut: all of its set S' is new
pub record Starts (n : ℕ) (S' : Set) (kept low high : ℕ) : Type 0 where
  pub no_member : kept ≡ 0
  pub no_event : low ≡ 0
  pub inside : high < n
  pub within : Within (suc high) S'
