-- The rules that a lent diagram keeps; one that does not is refused with 12.
-- Assumes nothing.
use Rattle.std.specs.Prelude.{◌≡◌, Bool, true, false, ◌≢◌, List, ℕ, ◌+◌, ◌*◌, ◌%◌, ◌≤◌, ◌<◌, length}
use Rattle.paper.specs.Limits.{limits, most_numbers}
use Rattle.tables.specs.Table.{event_of, failed_of, sound_of}

-- branch b of a node with event e: it is a leaf, or its event is above e
abbrev pub Above : List ℕ → ℕ → ℕ → Type 0
Above T e b = 2 ≤ b → e < event_of T b

-- node i of a diagram of n events: event range, branch numbering, rising events
pub record Node (n : ℕ) (T : List ℕ) (i : ℕ) : Type 0 where
  pub event : event_of T i < n
  pub failed : failed_of T i < i
  pub sound : sound_of T i < i
  pub failed_above : Above T (event_of T i) (failed_of T i)
  pub sound_above : Above T (event_of T i) (sound_of T i)

-- its branches differ; in a cut diagram instead: the failed branch is not 0
abbrev pub Kind : Bool → List ℕ → ℕ → Type 0
Kind true T i = failed_of T i ≢ 0
Kind false T i = failed_of T i ≢ sound_of T i

-- a table T of which c nodes are stated, for n events, and a root: every stated node is judged, reached or not
pub record Lent (cut : Bool) (n : ℕ) (T : List ℕ) (c root : ℕ) : Type 0 where
  pub some_event : 1 ≤ n
  pub few_events : n ≤ limits.events
  pub threes : length T % 3 ≡ 0
  pub short : length T ≤ most_numbers
  pub fits : 3 * c ≤ length T
  pub nodes : (i : ℕ) → 2 ≤ i → i < c + 2 → Node n T i × Kind cut T i
  pub root_in : root < c + 2
