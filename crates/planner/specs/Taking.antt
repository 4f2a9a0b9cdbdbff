-- Taking events: the greatest of some counts, and what the taking starts from.
-- Assumes nothing.
use Rattle.std.specs.Prelude.{◌≡◌, List, ℕ, ◌≤◌, ◌<◌, get_or}
use Rattle.paper.specs.Sets.{none}
use Rattle.paper.specs.Planner.{holding}
use Rattle.remaining.specs.Families.{CutDiagram, family, Cleared}
use Rattle.remaining.specs.Tallies.{Enough, Fits}

-- the event r has the greatest of the first n counts, and no lower one has
pub record Most (C : List ℕ) (n r : ℕ) : Type 0 where
  pub event : r < n
  pub most : (i : ℕ) → i < n → get_or C i 0 ≤ get_or C r 0
  pub lowest : (i : ℕ) → i < r → get_or C i 0 < get_or C r 0

-- the counts of all cuts, each of which can be answered, and areas of zeros
pub record Taking (n : ℕ) (T : List ℕ) (c root : ℕ) (C B W : List ℕ) : Type 0 where
  pub diagram : CutDiagram n T c root
  pub enough : Enough n T C B W
  pub fits : Fits n none (family T root)
  pub counts : (e : ℕ) → e < n → get_or C e 0 ≡ holding n none (family T root) e
  pub zero_below : Cleared B B
  pub zero_ways : Cleared W W
