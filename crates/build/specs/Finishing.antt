-- What building all gates of a tree answers.
-- Assumes nothing.
use Rattle.std.specs.Prelude.{◌≡◌, false, List, ℕ, ◌+◌, ◌-◌, ◌*◌, ◌≤◌, ◌<◌, length, get_or, take, Result, Ok, Err}
use Rattle.paper.specs.Limits.{most_numbers}
use Rattle.paper.specs.Trees.{Gate}
use Rattle.paper.specs.Diagrams.{leaf}
use Rattle.algebra.specs.Operations.{node_count, gate_diagrams, step_diagrams}
use Rattle.store.specs.Store.{Store}
use Rattle.store.specs.Building.{PartOf, Found, Only, Tidy}
use Rattle.atleast.specs.Making.{All, Held}
use Rattle.store.specs.declared.Built.{Built}
use Rattle.build.specs.declared.Over.{Over}

-- the lengths of the table and of the areas beside it
pub record Areas (T H X : List ℕ) : Type 0 where
  pub small : length T ≤ most_numbers
  pub linked : length T ≤ 3 * length X
  pub chains : 1 ≤ length H

-- how many nodes the steps of gate g have that those of the gates before have not
abbrev pub added_by : List Gate → ℕ → ℕ
added_by t g = node_count (step_diagrams (take (g + 1) t)) - node_count (step_diagrams (take g t))

-- A holds what each of the first g gates adds, then zeros
pub record AddedTo (t : List Gate) (g : ℕ) (A : List ℕ) : Type 0 where
  pub each : (i : ℕ) → i < g → get_or A i 0 ≡ added_by t i
  pub behind : (i : ℕ) → g ≤ i → get_or A i 0 ≡ 0

-- the first g gates of t are built
pub record Sofar (t : List Gate) (g : ℕ) (G A T H X M : List ℕ) (c : ℕ) : Type 0 where
  pub held : Held T H X M c
  pub only : Only (PartOf (step_diagrams (take g t))) T c
  pub all : All T c (step_diagrams (take g t))
  pub list : (i : ℕ) → Found T c (get_or (gate_diagrams (take g t)) i (leaf false)) (get_or G i 0)
  pub zeros : (i : ℕ) → g ≤ i → get_or G i 0 ≡ 0
  pub added : AddedTo t g A

-- all gates of t are built: the table holds the nodes of all steps and no other, then zeros; one list each gate's node, the other what each gate adds, then zeros
pub record Whole (t : List Gate) (G A T H X : List ℕ) (root c : ℕ) : Type 0 where
  pub store : Store T H X c
  pub tidy : Tidy T c
  pub only : Only (PartOf (step_diagrams t)) T c
  pub all : All T c (step_diagrams t)
  pub count : c ≡ node_count (step_diagrams t)
  pub gates : (i : ℕ) → Found T c (get_or (gate_diagrams t) i (leaf false)) (get_or G i 0)
  pub zeros : (i : ℕ) → length t ≤ i → get_or G i 0 ≡ 0
  pub added : AddedTo t (length t) A
  pub last : root ≡ get_or G (length t - 1) 0

-- gate g is the first whose steps, with those of the gates before, have more nodes than the table has room for
pub record TooMany (t : List Gate) (room g : ℕ) : Type 0 where
  pub inside : g < length t
  pub before : node_count (step_diagrams (take g t)) ≤ room
  pub over : room < node_count (step_diagrams (take (g + 1) t))

abbrev pub Finishes : (t : List Gate) (room : ℕ) (G A T H X : List ℕ) → Result Built Over → Type 0
Finishes t room G A T H X (Ok b) = Whole t G A T H X b.node b.count
Finishes t room G A T H X (Err x) = TooMany t room x.gate
