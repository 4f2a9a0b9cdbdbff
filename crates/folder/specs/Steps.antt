-- How a folder is gone through, tree after tree: inner promises, for the proof of the call.
-- Assumes nothing.
use Rattle.std.specs.Prelude.{◌≡◌, Option, Some, None, List, ℕ, ◌<◌, get_or}
use Rattle.paper.specs.Trees.{Tree}
use Rattle.paper.specs.Answers.{Verdict}
use Rattle.paper.specs.Sizes.{sizes}
use Rattle.folder.specs.Parts.{parts}
use Rattle.folder.specs.Passing.{AllPass, FirstRefused}
use Rattle.folder.specs.Totals.{total_of, Above, Fits}
use Rattle.folder.specs.Contract.{Lends, Answers, AtOnce}
use Rattle.folder.specs.Gathered.{Gathered}

-- the trees so far: where all fits the list has their totals, otherwise some total is too large, whatever comes
pub record Sums (ts : List Tree) (L : List ℕ) (so_far : Option (Unit {0})) : Type 0 where
  pub fits : so_far ≡ Some tt → Fits ts
  pub exact : so_far ≡ Some tt → (k : ℕ) → k < sizes → get_or L k 0 ≡ total_of k ts
  pub over : so_far ≡ None → Above ts

-- the number that is due behind the last tree
abbrev pub due : Option (Unit {0}) → ℕ
due (Some u) = 0
due None = 19

-- all trees, before anything is cleared
pub data Tried (bytes lengths : List ℕ) (l l' : Lends) (L' : List ℕ) (a : Gathered) : Type 0 where
  refused : (i : ℕ) (v : Verdict) → FirstRefused l.memory (parts bytes lengths) i v → Answers a v.number v.place i
      → (AtOnce i v.number → l' ≡ l) → Tried bytes lengths l l' L' a
  passed : (ts : List Tree) (so_far : Option (Unit {0})) → AllPass l.memory (parts bytes lengths) ts → Sums ts L' so_far → Answers a (due so_far) 0 0 → Tried bytes lengths l l' L' a
