-- The number that some digits stand for, the lowest first.
-- Assumes nothing.
use Rattle.std.specs.Prelude.{◌≡◌, List, [], ◌∷◌, ℕ, ◌+◌, ◌*◌, ◌≤◌, ◌<◌, get_or}
use Rattle.paper.specs.Limits.{limits, billion}

-- in base D
abbrev pub value : ℕ → List ℕ → ℕ
value D [] = 0
value D (d ∷ ds) = d + D * value D ds

unfoldable pub number : List ℕ → ℕ
number ds = value billion ds

-- so many digits an array of them has
abbrev pub places : ℕ
places = 2 * limits.events + 4

-- each digit is below D, and behind the first `used` are zeros
pub record Number (ds : List ℕ) (used : ℕ) : Type 0 where
  pub small : (k : ℕ) → get_or ds k 0 < billion
  pub behind : (k : ℕ) → used ≤ k → get_or ds k 0 ≡ 0
