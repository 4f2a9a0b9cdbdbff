-- The bracket of a tree that was read and analysed.
-- Assumes nothing.
use Rattle.std.specs.Prelude.{◌≡◌, true, false, List, ℕ}
use Rattle.paper.specs.Limits.{billion}
use Rattle.paper.specs.Chance.{low, high}
use Rattle.tables.specs.Table.{den}
use Rattle.tables.specs.Lent.{Lent}
use Rattle.records.specs.declared.Tree.{Tree}
use Rattle.arrays.specs.Chances.{chances_of}
use Rattle.bracket.specs.Bracketed.{chance_in, Chances}
use Rattle.memory.specs.Analysis.{Analysis}

-- a tree's node table, its events' chances none above D
pub record Priced (t : Tree) (T : List ℕ) (c root : ℕ) : Type 0 where
  pub lent : Lent false t.event_count T c root
  pub chances : Chances t.event_count (chances_of t.events)

-- the low and the high number of a tree's root, by the chances of its events
abbrev pub low_of : Tree → List ℕ → ℕ → ℕ
low_of t T root = low billion (chance_in (chances_of t.events)) (den T root)

abbrev pub high_of : Tree → List ℕ → ℕ → ℕ
high_of t T root = high billion (chance_in (chances_of t.events)) (den T root)

-- the bracket is answered 0, with both numbers
pub record Topped (t : Tree) (T : List ℕ) (root number place lo hi : ℕ) : Type 0 where
  pub is : number ≡ 0
  pub no_place : place ≡ 0
  pub low_is : lo ≡ low_of t T root
  pub high_is : hi ≡ high_of t T root

-- WHAT A DONE ANALYSIS of a tree's bytes leaves: a table to bracket and a table to list
pub record Held (t : Tree) (T C : List ℕ) (a : Analysis) : Type 0 where
  pub nodes : Priced t T a.nodes a.root
  pub cuts : Lent true t.event_count C a.cut_nodes a.cut_root
