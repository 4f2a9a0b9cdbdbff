-- What an analysis answers and leaves in all that was lent, for any arguments: 1 to 8 or 21, then 9, then 10, then 11, or done.
-- Assumes nothing.
use Rattle.std.specs.Prelude.{◌≡◌, List, ℕ, length}
use Rattle.paper.specs.Limits.{limits}
use Rattle.paper.specs.Answers.{NodesFull, FilledAt, CutsFull}
use Rattle.records.specs.Judge.{Book, accept, refuse, outcome}
use Rattle.rules.specs.Answers.{reason}
use Rattle.records.specs.Trees.{tree_of}
use Rattle.rules.specs.declared.Refusal.{Refusal}
use Rattle.memory.specs.Memory.{Memory, Lengths, AllZero, capacity}
use Rattle.memory.specs.Outcome.{Refused, at, Done}
use Rattle.memory.specs.Analysis.{Analysis}

-- the bytes, what was lent before and after, and the answer: the first rule that is broken, or done
pub data Analysed (bytes : List ℕ) (m m' : Memory) (a : Analysis) : Type 0 where
  bad_tree : (w : Refusal) → outcome limits bytes ≡ refuse w → Refused (reason w) a → m' ≡ m → Analysed bytes m m' a
  bad_length : (b : Book) → outcome limits bytes ≡ accept b → (Lengths (length (tree_of b).gates) m → ⊥) → Refused (at 9 0) a → m' ≡ m → Analysed bytes m m' a
  nodes_full : (b : Book) (g : ℕ) → outcome limits bytes ≡ accept b → Lengths (length (tree_of b).gates) m → FilledAt (tree_of b) (capacity m.nodes) g → Refused (at 10 g) a → AllZero m m' → Analysed bytes m m' a
  cuts_full : (b : Book) → outcome limits bytes ≡ accept b → Lengths (length (tree_of b).gates) m → (NodesFull (tree_of b) (capacity m.nodes) → ⊥) → CutsFull (tree_of b) (capacity m.cuts) → Refused (at 11 0) a → AllZero m m' → Analysed bytes m m' a
  done : (b : Book) → outcome limits bytes ≡ accept b → Lengths (length (tree_of b).gates) m → (NodesFull (tree_of b) (capacity m.nodes) → ⊥) → (CutsFull (tree_of b) (capacity m.cuts) → ⊥) → Done (tree_of b) m m' a → Analysed bytes m m' a
