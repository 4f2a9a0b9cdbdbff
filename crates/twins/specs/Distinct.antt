-- What the search for the distinct inputs of a gate answers. An input is its number in memory: event 3 and gate 3 have two.
-- Assumes nothing.
use Rattle.std.specs.Prelude.{◌≡◌, Bool, false, ◌||◌, List, [], ◌∷◌, ℕ, length, take, eqb}
use Rattle.paper.specs.Limits.{limits}
use Rattle.paper.specs.Twins.{firsts}

-- y is the same as one of them
abbrev pub stands_in : {A : Type 0} → (A → A → Bool) → A → List A → Bool
stands_in same y [] = false
stands_in same y (x ∷ xs) = same x y || stands_in same y xs

-- each input once, at its first place
abbrev pub distinct_codes : List ℕ → List ℕ
distinct_codes codes = firsts eqb codes

-- they stand at the front, so many
pub record Distinct (codes out : List ℕ) (n : ℕ) : Type 0 where
  pub count : n ≡ length (distinct_codes codes)
  pub front : take n out ≡ distinct_codes codes
  pub long : length out ≡ limits.inputs
