-- The numbers of the answers of a comparison of two listings, in order.
-- Assumes nothing.
use Rattle.std.specs.Prelude.{List, [], ◌∷◌, ℕ, ◌-◌, Option, None, Some, Result, Ok, Err}
use Rattle.sidebyside.specs.Sided.{side_answer}
use Rattle.sidebyside.specs.declared.Side.{Side}
use Rattle.sidebyside.specs.declared.Difference.{Difference}
use Rattle.changes.specs.Answers.{Compared}

abbrev pub of_side : Result (Option Side) Side → List ℕ
of_side w = (side_answer w).number ∷ (side_answer w).place ∷ (side_answer w).side ∷ []

-- those of a side, and where a stretch of its listing starts and how long it is
abbrev pub of_stretch : Result (Option Side) Side → ℕ → ℕ → List ℕ
of_stretch w start length = (side_answer w).number ∷ (side_answer w).place ∷ (side_answer w).side ∷ start ∷ length ∷ []

abbrev pub of_difference : Result (Option Difference) Side → List ℕ
of_difference (Ok None) = of_stretch (Ok None) 0 0
of_difference (Ok (Some d)) = of_stretch (Ok (Some d.side)) d.start (d.end - d.start)
of_difference (Err s) = of_stretch (Err s) 0 0

abbrev pub of_compared : Compared → List ℕ
of_compared c = c.number ∷ c.place ∷ c.side ∷ c.gone ∷ c.new ∷ c.kept ∷ []
