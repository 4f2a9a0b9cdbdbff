-- A path: the nodes at which the failed branch was taken, from the root down; and what a listing at its end has still to list.
-- Assumes nothing.
use Rattle.std.specs.Prelude.{◌≡◌, true, List, [], ◌∷◌, ◌++◌, map, ℕ, suc, ◌+◌, ◌≤◌, ◌<◌, length, take}
use Rattle.paper.specs.Sets.{Set, none, put, of_events}
use Rattle.paper.specs.Cuts.{sets_of}
use Rattle.sets.specs.Words.{words, set_of}
use Rattle.tables.specs.Table.{event_of, sound_of, den}
use Rattle.tables.specs.Lent.{Lent}

-- the events of a path's nodes, and their set
abbrev pub events_of : List ℕ → List ℕ → List ℕ
events_of T p = map (event_of T) p

abbrev pub along : List ℕ → List ℕ → Set
along T p = of_events (events_of T p)

-- THE SETS LEFT at the end of a path: those of x, each with the path's events put in, and those of its nodes' sound branches
unfoldable pub around : List ℕ → List ℕ → List Set → List Set
around T [] x = x
around T (i ∷ p) x = map (put (event_of T i) true) (around T p x) ++ sets_of (den T (sound_of T i))

-- the nodes of a path are among c stored ones, and their events rise, from m on and below e
abbrev pub Climbs : List ℕ → ℕ → ℕ → List ℕ → ℕ → Type 0
Climbs T c m [] e = m ≤ e
Climbs T c m (i ∷ p) e = (2 ≤ i) × (i < c + 2) × (m ≤ event_of T i) × Climbs T c (suc (event_of T i)) p e

-- the first d numbers of P are a path of a cut diagram, with room for more, and the node `at` may follow it
pub record Open (n : ℕ) (T : List ℕ) (c : ℕ) (P : List ℕ) (d at : ℕ) : Type 0 where
  pub lent : Lent true n T c at
  pub long : n ≤ length P
  pub deep : d ≤ length P
  pub end : ℕ
  pub climbs : Climbs T c 0 (take d P) end
  pub low : end ≤ n
  pub above : 2 ≤ at → end ≤ event_of T at

-- words that go with a path: they hold the set of the first d numbers of P
pub record Carries (T P : List ℕ) (d : ℕ) (ws : List ℕ) : Type 0 where
  pub long : length ws ≡ words
  pub is : set_of ws ≡ along T (take d P)

-- a node to go down from: the sets l are those of the node and those left by the path
pub record Spotted (n : ℕ) (T : List ℕ) (c : ℕ) (P : List ℕ) (d at : ℕ) (l : List Set) : Type 0 where
  pub path : Open n T c P d at
  pub some : 0 < at
  pub is : l ≡ around T (take d P) (sets_of (den T at))

-- the sets left at the path of a cut: its own and those behind it
abbrev pub left_of : List ℕ → List ℕ → ℕ → List Set
left_of T P d = around T (take d P) (none ∷ [])

-- the path of the first of the sets l
pub record Reached (n : ℕ) (T : List ℕ) (c : ℕ) (P : List ℕ) (d : ℕ) (l : List Set) : Type 0 where
  pub path : Open n T c P d 1
  pub is : l ≡ left_of T P d

-- no set is left of the sets l: the path is empty, and so is its set
pub record Ended (n : ℕ) (T : List ℕ) (c : ℕ) (P ws : List ℕ) (l : List Set) : Type 0 where
  pub path : Open n T c P 0 1
  pub carries : Carries T P 0 ws
  pub none_left : l ≡ []
