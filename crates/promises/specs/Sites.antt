-- SITES ARE NOT SEEN: what an analysis, and the calls on its tables, answer of two files that tell the same tree but for sites.
-- Assumes nothing.
use Rattle.std.specs.Prelude.{◌≡◌, ◌↔◌, Bool, true, List, ℕ}
use Rattle.paper.specs.Trees.{Tree, events}
use Rattle.records.specs.Trees.{tree_of}
use Rattle.listing.specs.Answers.{Answered}
use Rattle.listing.specs.Joined.{Joined}
use Rattle.bracket.specs.Bracketed.{Bracketed}
use Rattle.sizes.specs.Counted.{Counted}
use Rattle.memory.specs.Memory.{Memory}
use Rattle.memory.specs.Analysis.{Analysis}
use Rattle.analyser.specs.Analysed.{Analysed}
use Rattle.promises.specs.Reasons.{Accepted}
use Rattle.promises.specs.Coincide.{Coincide}

-- both files are accepted, and have the same gates and the same chances; their sites may differ, and their forms
pub record SameButSites (bytes bytes' : List ℕ) : Type 0 where
  pub one : Accepted bytes
  pub other : Accepted bytes'
  pub same : tree_of other.book ≡ tree_of one.book

-- Whatever the calls are lent beside the tables of two analyses, what they may answer and leave on the one tables is what they may on the other.
-- Each contract allows one outcome, so that is what they do.
pub record AnswerAlike (n : ℕ) (m m' : Memory) (a a' : Analysis) : Type 0 where
  pub list : {begin : Bool} {ws room room' : List ℕ} {number place count used : ℕ} {last : List ℕ} {finished : Bool}
      → Answered n m.cuts a.cut_nodes a.cut_root begin ws room room' number place count used last finished
      ↔ Answered n m'.cuts a'.cut_nodes a'.cut_root begin ws room room' number place count used last finished
  -- and the whole listings are the same bytes, in rooms of any sizes, here and there
  pub listing : {ws ws' bytes bytes' : List ℕ} → Joined n m.cuts a.cut_nodes a.cut_root true ws bytes
      → Joined n m'.cuts a'.cut_nodes a'.cut_root true ws' bytes' → bytes' ≡ bytes
  pub bracket : {A L H L' H' : List ℕ} {number place lo hi : ℕ} → Bracketed n m.nodes a.nodes a.root A number place lo hi L H L' H'
      ↔ Bracketed n m'.nodes a'.nodes a'.root A number place lo hi L H L' H'
  pub sizes : {number place : ℕ} {C B W R C' B' W' R' : List ℕ} → Counted n m.cuts a.cut_nodes a.cut_root number place C B W R C' B' W' R'
      ↔ Counted n m'.cuts a'.cut_nodes a'.cut_root number place C B W R C' B' W' R'

-- THESE FILES ANALYSE TO THE SAME, as the tree t, where the same memory is lent
pub record Unsited (t : Tree) (bytes bytes' : List ℕ) : Type 0 where
  -- what may be answered and left of the one file, to the last number of every table, may be of the other
  pub allowed : {m m' : Memory} {a : Analysis} → Analysed bytes m m' a ↔ Analysed bytes' m m' a
  -- so an outcome of the one and an outcome of the other are the same as two of one file are: but for the numbering of nodes, which the calls do not see
  pub coincide : {m m₁ m₂ : Memory} {a₁ a₂ : Analysis} → Analysed bytes m m₁ a₁ → Analysed bytes' m m₂ a₂ → Coincide m₁ m₂ a₁ a₂
  pub answers : {m m₁ m₂ : Memory} {a₁ a₂ : Analysis} → Analysed bytes m m₁ a₁ → Analysed bytes' m m₂ a₂ → a₁.number ≡ 0
      → AnswerAlike (events t) m₁ m₂ a₁ a₂

-- A MOVE of the one file to the other KEEPS every gate and chance, and so every count, listing and bracket
pub record Keeps (bytes bytes' : List ℕ) : Type 0 where
  pub tree : SameButSites bytes bytes'
  pub analysis : Unsited (tree_of tree.one.book) bytes bytes'
