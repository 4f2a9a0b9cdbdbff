-- WHAT IS SHOWN: the lines of a ring's names, or the names' first appearances, events then gates.
-- Assumes nothing.
use Rattle.std.specs.Prelude.{◌≡◌, Bool, true, false, not, List, ◌++◌, map, ℕ, ◌+◌, ◌-◌, ◌<◌, ◌≤◌, get_or, length, take}
use Rattle.paper.specs.Lists.{In}
use Rattle.paper.specs.Walks.{events_of, gates_of}
use Rattle.records.specs.Memory.{pad}
use Rattle.depthfirst.specs.Inputs.{inputs_of, Arrays}
use Rattle.equations.specs.Knowing.{Blank}

-- ---- a ring

-- the places of the lines that define these names
unfoldable pub lines_at : List ℕ → List ℕ → List ℕ
lines_at F l = map (λ n. get_or F n 0 - 1) l

-- the names of K from place a up to e are all defined, and R has room for their lines
pub record RingAt (K : List ℕ) (a e : ℕ) (F R : List ℕ) : Type 0 where
  pub from : a ≤ e
  pub inside : e ≤ length K
  pub room : e ≤ length R
  pub blank : Blank R
  pub defined : (i : ℕ) → a ≤ i → i < e → (get_or K i 0 < length F) × (1 ≤ get_or F (get_or K i 0) 0)

-- ---- names

abbrev pub agree : Bool → Bool → Bool
agree true b = b
agree false b = not b

-- the events of some names, or the gates
abbrev pub among : Bool → (ℕ → List ℕ) → List ℕ → List ℕ
among true g l = events_of g l
among false g l = gates_of g l

-- the places that N has for these names
unfoldable pub spots_at : List ℕ → List ℕ → List ℕ
spots_at N l = map (λ n. get_or N n 0) l

-- the events, or the gates, of an order can be shown behind the first `from` numbers of W
pub record Showable (S I : List ℕ) (c : ℕ) (Q : List ℕ) (left : ℕ) (N : List ℕ) (events : Bool) (W : List ℕ) (from : ℕ) : Type 0 where
  pub arrays : Arrays S I c
  pub inside : left ≤ length Q
  pub low : (z : ℕ) → In z (take left Q) → z < c
  pub names : c ≤ length N
  pub room : from + length (among events (inputs_of S I) (take left Q)) ≤ length W

-- where `from` numbers stood in W, and zeros behind them, the numbers m stand behind them now; there are r in all
abbrev pub Adds : (m W : List ℕ) (from : ℕ) (W' : List ℕ) (r : ℕ) → Type 0
Adds m W from W' r = (l : List ℕ) → length l ≡ from → W ≡ pad (length W) 0 l → (W' ≡ pad (length W) 0 (l ++ m)) × (length (l ++ m) ≡ r)

-- all names of an order can be shown
pub record ShowsNames (S I : List ℕ) (c : ℕ) (Q : List ℕ) (left : ℕ) (N W : List ℕ) : Type 0 where
  pub arrays : Arrays S I c
  pub inside : left ≤ length Q
  pub low : (z : ℕ) → In z (take left Q) → z < c
  pub names : c ≤ length N
  pub room : left ≤ length W
  pub blank : Blank W
