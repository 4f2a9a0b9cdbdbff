-- WHAT THE CONTRACT OF AN IMPORT PROMISES: outcomes that coincide, and a tree that means what the text means.
-- Assumes nothing.
use Rattle.std.specs.Prelude.{◌≡◌, List, ℕ, ◌<◌, get_or, length}
use Rattle.paper.specs.Limits.{limits}
use Rattle.paper.specs.Sets.{Set}
use Rattle.paper.specs.Trees.{root_fun}
use Rattle.paper.specs.Texts.{lines_of}
use Rattle.paper.specs.Equations.{dict_in, name_in, chance_in}
use Rattle.paper.specs.Meaning.{fails_in, event_names, tree_said}
use Rattle.paper.specs.Importing.{Rooted}
use Rattle.records.specs.Memory.{memory}
use Rattle.records.specs.Trees.{tree_of, Lawful}
use Rattle.records.specs.Flattened.{book_of}
use Rattle.records.specs.declared.Tree.{Tree}
use Rattle.meaning.specs.Said.{under_numbers}
use Rattle.equations.specs.Lists.{Lists}
use Rattle.equations.specs.Imported.{Imported}

-- two ways to lend the same room
pub record SameRoom (l k : Lists) : Type 0 where
  pub heads : length l.heads ≡ length k.heads
  pub next : length l.next ≡ length k.next
  pub names : length l.names ≡ length k.names
  pub defs : length l.defs ≡ length k.defs
  pub marks : length l.marks ≡ length k.marks
  pub amounts : length l.amounts ≡ length k.amounts
  pub starts : length l.starts ≡ length k.starts
  pub rights : length l.rights ≡ length k.rights
  pub order : length l.order ≡ length k.order
  pub ring : length l.ring ≡ length k.ring
  pub shown : length l.shown ≡ length k.shown

-- the same but for the list of the ring
pub record SameLists (l k : Lists) : Type 0 where
  pub heads : l.heads ≡ k.heads
  pub next : l.next ≡ k.next
  pub names : l.names ≡ k.names
  pub defs : l.defs ≡ k.defs
  pub marks : l.marks ≡ k.marks
  pub amounts : l.amounts ≡ k.amounts
  pub starts : l.starts ≡ k.starts
  pub rights : l.rights ≡ k.rights
  pub order : l.order ≡ k.order
  pub shown : l.shown ≡ k.shown

-- TWO OUTCOMES that are one but for the ring that 17 shows: the answers, and, 9 aside (it leaves each list as it was), the lists
pub record Alike (a b : Imported) (l k : Lists) : Type 0 where
  pub number : a.number ≡ b.number
  pub place : a.place ≡ b.place
  pub line : a.line ≡ b.line
  pub tree : a.tree ≡ b.tree
  pub lists : (a.number ≡ 9 → ⊥) → SameLists l k
  pub ring : (a.number ≡ 9 → ⊥) → (a.number ≡ 17 → ⊥) → (a.ring ≡ b.ring) × (l.ring ≡ k.ring)

-- THE IMPORTED TREE: what lies in memory is a lawful tree; its root fails under a set of events exactly when the root's name does under the set of
-- their names; and each event has the chance that is given for its name, 0 if missing
pub record Means (text : List ℕ) (tree : Tree) : Type 0 where
  pub root : ℕ
  pub rooted : Rooted (lines_of text) root
  pub is : tree ≡ memory (book_of (tree_said (lines_of text) root))
  pub lawful : Lawful limits (book_of (tree_said (lines_of text) root))
  pub same : tree_of (book_of (tree_said (lines_of text) root)) ≡ tree_said (lines_of text) root
  pub fails : (v : Set) → root_fun (tree_said (lines_of text) root).gates v ≡ fails_in (lines_of text) (length (dict_in (lines_of text))) (under_numbers (lines_of text) root v) (name_in (lines_of text) root)
  pub chances : (e : ℕ) → e < length (event_names (lines_of text) root)
      → get_or (tree_said (lines_of text) root).chances e 0 ≡ chance_in (name_in (lines_of text) (get_or (event_names (lines_of text) root) e 0)) (lines_of text)
