-- WHAT A FOLDER ANSWERS, and what it leaves in all that was lent: 9 at first, then the first refused tree, then 19, or done.
-- Assumes nothing.
use Rattle.std.specs.Prelude.{◌≡◌, List, ℕ, replicate}
use Rattle.paper.specs.Limits.{limits}
use Rattle.paper.specs.Trees.{Tree}
use Rattle.paper.specs.Answers.{Verdict, Unwritten}
use Rattle.memory.specs.Memory.{Memory, memory, Zero, AllZero}
use Rattle.totals.specs.Fitting.{Fitting}
use Rattle.folder.specs.Parts.{parts}
use Rattle.folder.specs.Passing.{AllPass, FirstRefused}
use Rattle.folder.specs.Totals.{Above, Fits, Totals}
use Rattle.folder.specs.Gathered.{Gathered}

-- what an analysis is lent in a folder: the lists that the folder is lent, and a list of its own for what each gate adds, long enough for any tree and zero
abbrev pub lent : (nodes cuts gates memo heads next marks own : List ℕ) → Memory
lent nodes cuts gates memo heads next marks own = memory nodes cuts gates (replicate limits.gates 0) memo heads next marks own

-- what is lent beside the counts: the memory of an analysis, and the three areas of the counting
pub record Lends : Type 0 where
  pub memory : Memory
  pub less : List ℕ
  pub work : List ℕ
  pub reached : List ℕ

abbrev pub lends : Memory → List ℕ → List ℕ → List ℕ → Lends
lends m less work reached = record { memory = m; less = less; work = work; reached = reached }

-- not the first 9
abbrev pub Right : List ℕ → List ℕ → Lends → List ℕ → Type 0
Right bytes lengths l C = Fitting bytes lengths l.memory.cuts C l.less l.work l.reached

-- an answer with this number, this place and this tree
pub record Answers (a : Gathered) (number place tree : ℕ) : Type 0 where
  pub number_is : a.number ≡ number
  pub place_is : a.place ≡ place
  pub tree_is : a.tree ≡ tree

-- all that was lent beside the counts is zero, to the last number
pub record Cleared (l l' : Lends) : Type 0 where
  pub memory : AllZero l.memory l'.memory
  pub less : Zero l.less l'.less
  pub work : Zero l.work l'.work
  pub reached : Zero l.reached l'.reached

-- the first tree's own, before anything was written: 1 to 8, 21 or 9
abbrev pub AtOnce : ℕ → ℕ → Type 0
AtOnce i number = (i ≡ 0) × Unwritten number

-- what a refusal by the tree of index i leaves: all as it was if nothing was written before it, and otherwise zero
pub data Leaves (i number : ℕ) (l l' : Lends) : Type 0 where
  unchanged : AtOnce i number → l' ≡ l → Leaves i number l l'
  zeroed : (AtOnce i number → ⊥) → Cleared l l' → Leaves i number l l'

-- THE CONTRACT of `folder`; C is the list of counts
pub data Gathers (bytes lengths : List ℕ) (l : Lends) (C : List ℕ) (l' : Lends) (C' : List ℕ) (a : Gathered) : Type 0 where
  misfit : (Right bytes lengths l C → ⊥) → Answers a 9 0 0 → l' ≡ l → C' ≡ C → Gathers bytes lengths l C l' C' a
  refused : (i : ℕ) (v : Verdict) → Right bytes lengths l C → FirstRefused l.memory (parts bytes lengths) i v → Answers a v.number v.place i
      → Leaves i v.number l l' → C' ≡ C → Gathers bytes lengths l C l' C' a
  too_many : (ts : List Tree) → Right bytes lengths l C → AllPass l.memory (parts bytes lengths) ts → Above ts → Answers a 19 0 0
      → Cleared l l' → C' ≡ C → Gathers bytes lengths l C l' C' a
  done : (ts : List Tree) → Right bytes lengths l C → AllPass l.memory (parts bytes lengths) ts → Fits ts → Answers a 0 0 0
      → Cleared l l' → Totals ts C C' → Gathers bytes lengths l C l' C' a
