-- What a listing has to list: all sets of a family, or those after a set.
-- Assumes nothing.
use Rattle.std.specs.Prelude.{Bool, List, ℕ}
use Rattle.paper.specs.Sets.{Set}
use Rattle.paper.specs.Diagrams.{Diagram}
use Rattle.paper.specs.Cuts.{sets_of}
use Rattle.paper.specs.Order.{from_start}
use Rattle.sets.specs.Words.{set_of}

-- the sets that a call has to list
abbrev pub to_list : ℕ → Diagram → Bool → List ℕ → List Set
to_list n d begin ws = from_start begin n (set_of ws) (sets_of d)
