-- Which trees of a folder pass, and which is the first that is refused: by the reasons that an analysis has. Of the lent memory only the lengths matter.
-- Assumes nothing.
use Rattle.std.specs.Prelude.{◌≡◌, List, [], ◌∷◌, ℕ, ◌<◌, length, get_or, take}
use Rattle.paper.specs.Limits.{limits}
use Rattle.paper.specs.Trees.{Tree}
use Rattle.paper.specs.Answers.{Verdict, NodesFull, FilledAt, CutsFull}
use Rattle.rules.specs.Answers.{reason}
use Rattle.records.specs.Judge.{Book, accept, refuse, outcome}
use Rattle.records.specs.Trees.{tree_of}
use Rattle.rules.specs.declared.Refusal.{Refusal}
use Rattle.memory.specs.Memory.{Memory, Lengths, capacity}
use Rattle.memory.specs.Outcome.{at}

-- the bytes are accepted as the tree t, the lent lengths are right for it, and neither table is too small
pub record Passes (m : Memory) (bytes : List ℕ) (t : Tree) : Type 0 where
  pub book : Book
  pub accepted : outcome limits bytes ≡ accept book
  pub is : t ≡ tree_of book
  pub lengths : Lengths (length t.gates) m
  pub nodes_fit : NodesFull t (capacity m.nodes) → ⊥
  pub cuts_fit : CutsFull t (capacity m.cuts) → ⊥

-- the tree is refused with this number and place: 1 to 8 or 21, then 9, then 10, then 11
pub data Refuses (m : Memory) (bytes : List ℕ) (v : Verdict) : Type 0 where
  bad_tree : (w : Refusal) → outcome limits bytes ≡ refuse w → v ≡ reason w → Refuses m bytes v
  bad_length : (b : Book) → outcome limits bytes ≡ accept b → (Lengths (length (tree_of b).gates) m → ⊥) → v ≡ at 9 0 → Refuses m bytes v
  nodes_full : (b : Book) (g : ℕ) → outcome limits bytes ≡ accept b → Lengths (length (tree_of b).gates) m → FilledAt (tree_of b) (capacity m.nodes) g → v ≡ at 10 g → Refuses m bytes v
  cuts_full : (b : Book) → outcome limits bytes ≡ accept b → Lengths (length (tree_of b).gates) m → (NodesFull (tree_of b) (capacity m.nodes) → ⊥)
      → CutsFull (tree_of b) (capacity m.cuts) → v ≡ at 11 0 → Refuses m bytes v

-- these bytes pass, one after the other, as these trees
abbrev pub AllPass : Memory → List (List ℕ) → List Tree → Type 0
AllPass m [] [] = Unit {0}
AllPass m [] (t ∷ ts) = ⊥
AllPass m (b ∷ bs) [] = ⊥
AllPass m (b ∷ bs) (t ∷ ts) = Passes m b t × AllPass m bs ts

-- THE FIRST REFUSED TREE has index i: those before it pass, and it is refused with v
pub record FirstRefused (m : Memory) (bs : List (List ℕ)) (i : ℕ) (v : Verdict) : Type 0 where
  pub inside : i < length bs
  pub trees : List Tree
  pub before : AllPass m (take i bs) trees
  pub refused : Refuses m (get_or bs i []) v
