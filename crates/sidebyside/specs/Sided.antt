-- The sides of a comparison: the fault of one, a difference that one shows, and the number, the place and the side of an answer.
-- Assumes nothing.
use Rattle.std.specs.Prelude.{List, ℕ, Option, None, Some, Result, Ok, Err}
use Rattle.paper.specs.GoodListing.{Good}
use Rattle.paper.specs.Changes.{Shows}
use Rattle.sidebyside.specs.declared.Side.{Side}
use Rattle.sidebyside.specs.declared.Side.TheVariants.{Yesterday, Today}

-- what refuses a comparison of yesterday's bytes y and today's t: yesterday's fault comes first
abbrev pub Fault : List ℕ → List ℕ → Side → Type 0
Fault y t Yesterday = Good y → ⊥
Fault y t Today = Good y × (Good t → ⊥)

-- from a to e stands the first cut that stands in one of them only, and it stands in this one
abbrev pub ShowsIn : List ℕ → List ℕ → Side → ℕ → ℕ → Type 0
ShowsIn y t Yesterday a e = Shows y t a e
ShowsIn y t Today a e = Shows t y a e

-- a number and its place; the side is 1 for yesterday, 2 for today, 0 for neither
pub record Sided : Type 0 where
  pub number : ℕ
  pub place : ℕ
  pub side : ℕ

abbrev pub side_number : Side → ℕ
side_number Yesterday = 1
side_number Today = 2

-- 20 with the side of the fault, else 0; the place is 0 always
abbrev pub side_answer : Result (Option Side) Side → Sided
side_answer (Ok None) = record { number = 0; place = 0; side = 0 }
side_answer (Ok (Some s)) = record { number = 0; place = 0; side = side_number s }
side_answer (Err s) = record { number = 20; place = 0; side = side_number s }
