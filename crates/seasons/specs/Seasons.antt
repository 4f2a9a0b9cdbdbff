-- What an analysis under the settings of an edition answers and leaves, for any arguments: 1 to 8 or 21, then 24 and 13, then 9, then 10, then 11, or done.
-- Assumes nothing.
use Rattle.std.specs.Prelude.{◌≡◌, ◌≢◌, List, ℕ, length}
use Rattle.paper.specs.Limits.{limits}
use Rattle.paper.specs.Trees.{Tree, events}
use Rattle.paper.specs.Answers.{NodesFull, FilledAt, CutsFull}
use Rattle.paper.specs.Store.{accepted, judge_store, settings_of}
use Rattle.paper.specs.Forcing.{force_tree}
use Rattle.rules.specs.Answers.{reason}
use Rattle.rules.specs.declared.Refusal.{Refusal}
use Rattle.records.specs.Judge.{Book, accept, refuse, outcome}
use Rattle.records.specs.Trees.{tree_of}
use Rattle.memory.specs.Memory.{Memory, Lengths, AllZero, capacity}
use Rattle.memory.specs.Outcome.{Refused, at, Done}
use Rattle.memory.specs.Analysis.{Analysis}

-- of the tree t, from 9 on
pub data AnalysedTree (t : Tree) (m m' : Memory) (a : Analysis) : Type 0 where
  bad_length : (Lengths (length t.gates) m → ⊥) → Refused (at 9 0) a → m' ≡ m → AnalysedTree t m m' a
  nodes_full : (g : ℕ) → Lengths (length t.gates) m → FilledAt t (capacity m.nodes) g → Refused (at 10 g) a → AllZero m m' → AnalysedTree t m m' a
  cuts_full : Lengths (length t.gates) m → (NodesFull t (capacity m.nodes) → ⊥) → CutsFull t (capacity m.cuts) → Refused (at 11 0) a → AllZero m m' → AnalysedTree t m m' a
  done : Lengths (length t.gates) m → (NodesFull t (capacity m.nodes) → ⊥) → (CutsFull t (capacity m.cuts) → ⊥) → Done t m m' a → AnalysedTree t m m' a

-- the tree that was read, under the settings of the asked edition
abbrev pub tree_under : ℕ → List ℕ → Book → Tree
tree_under asked store b = force_tree (settings_of asked store) (tree_of b)

-- the bytes, the store, the asked edition, what was lent before and after, and the answer
pub data AnalysedUnder (bytes store : List ℕ) (asked : ℕ) (m m' : Memory) (a : Analysis) : Type 0 where
  bad_tree : (w : Refusal) → outcome limits bytes ≡ refuse w → Refused (reason w) a → m' ≡ m → AnalysedUnder bytes store asked m m' a
  bad_store : (b : Book) → outcome limits bytes ≡ accept b → (judge_store (events (tree_of b)) store).number ≢ 0 → Refused (judge_store (events (tree_of b)) store) a → m' ≡ m
      → AnalysedUnder bytes store asked m m' a
  analysed : (b : Book) → outcome limits bytes ≡ accept b → judge_store (events (tree_of b)) store ≡ accepted → AnalysedTree (tree_under asked store b) m m' a
      → AnalysedUnder bytes store asked m m' a
