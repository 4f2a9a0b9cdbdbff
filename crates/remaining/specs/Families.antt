-- A lent cut diagram as a family of sets: all that a caller need know of the table.
-- Assumes nothing.
use Rattle.std.specs.Prelude.{◌≡◌, true, List, ℕ, length, replicate}
use Rattle.paper.specs.Sets.{Set}
use Rattle.paper.specs.Cuts.{sets_of}
use Rattle.tables.specs.Table.{den}
use Rattle.tables.specs.Lent.{Lent}

-- not 12: the table T with c stated nodes is a cut diagram of n events that has this root
abbrev pub CutDiagram : ℕ → List ℕ → ℕ → ℕ → Type 0
CutDiagram n T c root = Lent true n T c root

-- THE FAMILY that the root denotes, in the order of a listing
unfoldable pub family : List ℕ → ℕ → List Set
family T root = sets_of (den T root)

-- zero in an area, to its last number
abbrev pub Cleared : List ℕ → List ℕ → Type 0
Cleared W W' = W' ≡ replicate (length W) 0
