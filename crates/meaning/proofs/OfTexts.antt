-- WHAT A TYPED TEXT SAYS: the tree has the text's function and is lawful; done exactly when there is such a tree.
-- Assumes nothing.
use mathlib.Core.Path.{◌≡◌}
use mathlib.Core.Logic.{◌↔◌}
use mathlib.Core.List.{List}
use Prim.Native.Nat.{ℕ, ◌≤◌}
use lib.ListN.{length}
use Rattle.paper.specs.Limits.{limits}
use Rattle.paper.specs.Sets.{Set}
use Rattle.paper.specs.Trees.{root_fun}
use Rattle.paper.specs.Texts.{lines_of}
use Rattle.paper.specs.Equations.{dict_in, name_in}
use Rattle.paper.specs.Meaning.{fails_in, tree_said}
use Rattle.paper.specs.Importing.{broken, Rooted, Says}
use Rattle.meaning.specs.Said.{under_numbers}
use Rattle.records.specs.Flattened.{LawfulTree}
use Rattle.meaning.proofs.Typed.{typed_filled}
use Rattle.meaning.proofs.Means.{said_means}
use Rattle.meaning.proofs.Whole.{said_lawful}
use Rattle.meaning.proofs.Once.{done_exactly}

module _ (t : List ℕ) (root : ℕ) (r : Rooted (lines_of t) root) where
  -- the root of the tree fails under a set of events exactly when the root's name does under the set of their names
  pub text_means : (v : Set) (k : ℕ) → length (dict_in (lines_of t)) ≤ k
      → root_fun (tree_said (lines_of t) root).gates v ≡ fails_in (lines_of t) k (under_numbers (lines_of t) root v) (name_in (lines_of t) root)
  text_means v k h = said_means (typed_filled t) r v k h

  pub text_lawful : broken limits (tree_said (lines_of t) root) ≡ 0 → LawfulTree limits (tree_said (lines_of t) root)
  text_lawful e = said_lawful r (typed_filled t) e

pub text_done : (t : List ℕ) → Says (lines_of t) 0 0 ↔ ((root : ℕ) × Rooted (lines_of t) root × LawfulTree limits (tree_said (lines_of t) root))
text_done t = done_exactly (lines_of t) (typed_filled t)
