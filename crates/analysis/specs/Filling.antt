-- The analysis of a tree in memory that can be built: 9, 10, 11, or done.
-- Assumes nothing.
use Rattle.std.specs.Prelude.{◌≡◌, ℕ, length}
use Rattle.paper.specs.Limits.{limits}
use Rattle.paper.specs.Trees as paper
use Rattle.paper.specs.Answers.{NodesFull, FilledAt}
use Rattle.records.specs.Judge.{Book}
use Rattle.records.specs.Memory.{memory}
use Rattle.records.specs.Trees.{Lawful, tree_in}
use Rattle.records.specs.declared.Tree.{Tree}
use Rattle.build.specs.Memory.{Arrays}
use Rattle.memory.specs.Memory.{Memory, Lengths, capacity, AllZero}
use Rattle.memory.specs.Outcome.{Refused, at}
use Rattle.memory.specs.Analysis.{Analysis}
use Rattle.analysis.specs.Completing.{Sound, CutsFilled}

-- a tree in memory that was read
pub record WasRead (t : Tree) : Type 0 where
  pub book : Book
  pub is : t ≡ memory book
  pub lawful : Lawful limits book

-- one that can be built: a tree that was read, or such a tree with some events forced
pub record Buildable (t : Tree) : Type 0 where
  pub arrays : Arrays t
  pub sound : Sound (tree_in t)
  pub count : length (tree_in t).gates ≡ t.gate_count

-- from the beginning: 10, or the node table is finished
pub data Filled (t : paper.Tree) (m m' : Memory) (a : Analysis) : Type 0 where
  nodes_full : (g : ℕ) → FilledAt t (capacity m.nodes) g → Refused (at 10 g) a → AllZero m m' → Filled t m m' a
  nodes_fit : (NodesFull t (capacity m.nodes) → ⊥) → CutsFilled t m m' a → Filled t m m' a

-- 9, or both tables
pub data Tried (tree : Tree) (m m' : Memory) (a : Analysis) : Type 0 where
  bad_length : (Lengths tree.gate_count m → ⊥) → Refused (at 9 0) a → m' ≡ m → Tried tree m m' a
  filled : Lengths tree.gate_count m → Filled (tree_in tree) m m' a → Tried tree m m' a
