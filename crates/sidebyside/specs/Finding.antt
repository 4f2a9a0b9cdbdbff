-- The first difference of two listings.
-- Assumes nothing.
use Rattle.std.specs.Prelude.{◌≡◌, ◌⊎◌, List, ℕ, Option, None, Some, Result, Ok, Err}
use Rattle.paper.specs.GoodListing.{Good}
use Rattle.paper.specs.Changes.{Only}
use Rattle.sidebyside.specs.Members.{Lt}
use Rattle.sidebyside.specs.Walking.{Walked}
use Rattle.sidebyside.specs.Sided.{Fault, ShowsIn}
use Rattle.sidebyside.specs.declared.Side.{Side}
use Rattle.sidebyside.specs.declared.Difference.{Difference}

-- THE CONTRACT of `find`: a fault, yesterday's first; else equal bytes, or the stretch of the first cut that stands in one listing only
abbrev pub Finds : List ℕ → List ℕ → Result (Option Difference) Side → Type 0
Finds y t (Ok None) = Good y × (y ≡ t)
Finds y t (Ok (Some d)) = ShowsIn y t d.side d.start d.end
Finds y t (Err s) = Fault y t s

-- a cut of this listing, by its place
abbrev pub shown : Side → ℕ → ℕ → Option Difference
shown s a e = Some (record { side = s; start = a; end = e })

-- up to `at` both have the same cuts, and what stands there decides if both are good
pub record Parted (y t : List ℕ) (at end stop : ℕ) (found : Option Difference) : Type 0 where
  pub mine : Walked y at end
  pub yours : Walked t at stop
  pub shows : Good y → Good t → Finds y t (Ok found)

-- the cut c stands in k and not in l, and before every other that stands in one of them only
pub record FirstCut (c : List ℕ) (k l : List (List ℕ)) : Type 0 where
  pub only : Only c k l
  pub first : (d : List ℕ) → Only d k l ⊎ Only d l k → (d ≡ c) ⊎ Lt c d
