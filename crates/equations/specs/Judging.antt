-- WHAT A TEXT IS ANSWERED where all lists are long enough, with what it shows: R and R' the list of the ring, before and after, W and W' that of the names.
-- Assumes nothing.
use Rattle.std.specs.Prelude.{◌≡◌, List, ℕ, ◌<◌, length}
use Rattle.paper.specs.Limits.{limits}
use Rattle.paper.specs.Texts.{lines_of}
use Rattle.paper.specs.Meaning.{tree_said}
use Rattle.paper.specs.Importing.{Rooted, Says, broken}
use Rattle.records.specs.Judge.{start}
use Rattle.records.specs.Memory.{pad, memory}
use Rattle.records.specs.Flattened.{book_of}
use Rattle.equations.specs.Contract.{ShowsRing, spots_of, Answers}
use Rattle.equations.specs.Imported.{Imported}

-- refused but for a ring, or done
pub data Ends (text W W' : List ℕ) (a : Imported) : Type 0 where
  refused : (m line : ℕ) → Says (lines_of text) m line → 0 < m → (m ≡ 17 → ⊥) → Answers a m line 0 (memory start) → W' ≡ W → Ends text W W' a
  done : (root : ℕ) → Rooted (lines_of text) root → broken limits (tree_said (lines_of text) root) ≡ 0
      → Answers a 0 0 0 (memory (book_of (tree_said (lines_of text) root))) → W' ≡ pad (length W) 0 (spots_of text root) → Ends text W W' a

pub data Judged (text R W R' W' : List ℕ) (a : Imported) : Type 0 where
  ends : Ends text W W' a → R' ≡ R → Judged text R W R' W' a
  back : (places : List ℕ) → Says (lines_of text) 17 0 → Answers a 17 0 (length places) (memory start) → ShowsRing (lines_of text) places
      → R' ≡ pad (length R) 0 places → W' ≡ W → Judged text R W R' W' a
