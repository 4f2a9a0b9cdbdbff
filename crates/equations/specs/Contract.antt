-- WHAT AN IMPORT ANSWERS, and what it leaves in all that was lent: 9, then what the text is answered. One freedom: which ring is shown with 17.
-- Assumes nothing.
use Rattle.std.specs.Prelude.{◌≡◌, List, ◌++◌, map, ℕ, ◌-◌, ◌<◌, get_or, length}
use Rattle.paper.specs.Limits.{limits}
use Rattle.paper.specs.Lists.{In}
use Rattle.paper.specs.Texts.{Placed, lines_of}
use Rattle.paper.specs.Equations.{dict_in, name_in, inputs_in, defined_in}
use Rattle.paper.specs.Walks.{Ring}
use Rattle.paper.specs.Meaning.{event_names, gate_names, tree_said}
use Rattle.paper.specs.Importing.{Rooted, Says, broken}
use Rattle.paper.specs.Spots.{spots_in}
use Rattle.records.specs.Judge.{start}
use Rattle.records.specs.Memory.{pad, memory}
use Rattle.records.specs.Flattened.{book_of}
use Rattle.records.specs.declared.Tree.{Tree}
use Rattle.equations.specs.Lists.{Lists, Long, Zeroed, Worked}
use Rattle.equations.specs.Imported.{Imported}

-- the place of the line that defines a name
abbrev pub line_at : List Placed → ℕ → ℕ
line_at ls n = defined_in (name_in ls n) ls - 1

-- A RING SHOWN: the places of its names' lines, each left name an input of the line before it, the first of the last
pub record ShowsRing (ls : List Placed) (places : List ℕ) : Type 0 where
  pub names : List ℕ
  pub low : (n : ℕ) → In n names → n < length (dict_in ls)
  pub ring : Ring (inputs_in ls) names
  pub are : places ≡ map (line_at ls) names

-- the first appearances of the events' names, then of the gates'
unfoldable pub spots_of : List ℕ → ℕ → List ℕ
spots_of text root = map (λ n. get_or (spots_in text) n 0) (event_names (lines_of text) root ++ gate_names (lines_of text) root)

-- an answer with this number, place 0, this line, this length of a ring and this tree
pub record Answers (a : Imported) (number line ring : ℕ) (tree : Tree) : Type 0 where
  pub is : a.number ≡ number
  pub nowhere : a.place ≡ 0
  pub at : a.line ≡ line
  pub round : a.ring ≡ ring
  pub tells : a.tree ≡ tree

-- THE CONTRACT of `import`
pub data Imports (text : List ℕ) (l l' : Lists) (a : Imported) : Type 0 where
  short : (Long (length text) l → ⊥) → Answers a 9 0 0 (memory start) → l' ≡ l → Imports text l l' a
  refused : (m line : ℕ) → Long (length text) l → Says (lines_of text) m line → 0 < m → (m ≡ 17 → ⊥) → Answers a m line 0 (memory start)
      → Worked l l' → Zeroed l.ring l'.ring → Zeroed l.shown l'.shown → Imports text l l' a
  back : (places : List ℕ) → Long (length text) l → Says (lines_of text) 17 0 → Answers a 17 0 (length places) (memory start)
      → ShowsRing (lines_of text) places → l'.ring ≡ pad (length l.ring) 0 places → Worked l l' → Zeroed l.shown l'.shown → Imports text l l' a
  done : (root : ℕ) → Long (length text) l → Rooted (lines_of text) root → broken limits (tree_said (lines_of text) root) ≡ 0
      → Answers a 0 0 0 (memory (book_of (tree_said (lines_of text) root))) → l'.shown ≡ pad (length l.shown) 0 (spots_of text root)
      → Worked l l' → Zeroed l.ring l'.ring → Imports text l l' a
