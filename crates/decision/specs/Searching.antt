-- What the search of a listing for a cut in a set finds.
-- Assumes nothing.
use Rattle.std.specs.Prelude.{◌≡◌, Bool, false, ◌||◌, List, [], ◌∷◌, ◌++◌, ℕ, Option, None, Some}
use Rattle.paper.specs.Lists.{every}
use Rattle.paper.specs.Sets.{Set}
use Rattle.paper.specs.Listing.{cut_bytes}
use Rattle.paper.specs.GoodListing.{Good}
use Rattle.sidebyside.specs.Members.{Held}

-- whether every member of one of these cuts is in S
unfoldable pub any_in : List (List ℕ) → Set → Bool
any_in [] S = false
any_in (c ∷ cs) S = every S c || any_in cs S

-- b says whether every member of the cut at the front of t is in S
abbrev pub Covers : List ℕ → Set → Bool → Type 0
Covers t S b = (es rest : List ℕ) → t ≡ cut_bytes es ++ rest → b ≡ every S es

-- the listing s is that of some cuts, and b says whether every member of one of them is in S
pub record Looked (s : List ℕ) (S : Set) (b : Bool) : Type 0 where
  pub cuts : List (List ℕ)
  pub held : Held s cuts
  pub is : b ≡ any_in cuts S

-- a bad listing, or what a good one says of S
abbrev pub Searches : List ℕ → Set → Option Bool → Type 0
Searches s S None = Good s → ⊥
Searches s S (Some b) = Looked s S b
