-- Why an analysis answers as it does: what is known of the bytes, and of the lent memory for the tree that they are.
-- Assumes nothing.
use Rattle.std.specs.Prelude.{◌≡◌, List, ℕ, length}
use Rattle.paper.specs.Limits.{limits}
use Rattle.paper.specs.Answers.{NodesFull, FilledAt, CutsFull}
use Rattle.rules.specs.Answers.{reason}
use Rattle.records.specs.Judge.{Book, accept, refuse, outcome}
use Rattle.records.specs.Trees.{tree_of}
use Rattle.rules.specs.declared.Refusal.{Refusal}
use Rattle.memory.specs.Memory.{Memory, Lengths, capacity}

-- the bytes are refused with this number and place
pub record BadTree (bytes : List ℕ) (number place : ℕ) : Type 0 where
  pub answer : Refusal
  pub refused : outcome limits bytes ≡ refuse answer
  pub number_is : number ≡ (reason answer).number
  pub place_is : place ≡ (reason answer).place

-- the bytes are accepted
pub record Accepted (bytes : List ℕ) : Type 0 where
  pub book : Book
  pub is : outcome limits bytes ≡ accept book

module _ {bytes : List ℕ} (t : Accepted bytes) (m : Memory) where
  -- the lengths are right, and either table's need exceeds its capacity
  abbrev pub Long : Type 0
  Long = Lengths (length (tree_of t.book).gates) m

  abbrev pub TooManyNodes : Type 0
  TooManyNodes = NodesFull (tree_of t.book) (capacity m.nodes)

  -- at gate g
  abbrev pub FullAt : ℕ → Type 0
  FullAt g = FilledAt (tree_of t.book) (capacity m.nodes) g

  abbrev pub TooManyCuts : Type 0
  TooManyCuts = CutsFull (tree_of t.book) (capacity m.cuts)
