-- THE CONTRACTS of the comparisons, of yesterday's bytes y and today's t.
-- Assumes nothing.
use Rattle.std.specs.Prelude.{◌≡◌, List, [], ℕ, ◌-◌, take, drop, Option, None, Some, Result, Ok, Err}
use Rattle.paper.specs.GoodListing.{Good}
use Rattle.paper.specs.Changes.{Shows, Counts}
use Rattle.sidebyside.specs.Sided.{Fault, ShowsIn, side_answer}
use Rattle.sidebyside.specs.declared.Side.{Side}
use Rattle.sidebyside.specs.declared.Numbers.{Numbers}
use Rattle.sidebyside.specs.declared.Side.TheVariants.{Yesterday, Today}

-- `side`: yesterday's fault first, then today's; else equal bytes, or where the first cut stands that stands in one listing only
abbrev pub Sides : List ℕ → List ℕ → Result (Option Side) Side → Type 0
Sides y t (Ok None) = Good y × (y ≡ t)
Sides y t (Ok (Some s)) = (a : ℕ) × (e : ℕ) × ShowsIn y t s a e
Sides y t (Err s) = Fault y t s

-- the stretch of s that shows it
pub record Stretch (s u part : List ℕ) : Type 0 where
  pub start : ℕ
  pub end : ℕ
  pub shows : Shows s u start end
  pub is : part ≡ take (end - start) (drop start s)

-- what the part is, by the side
abbrev pub Parted : List ℕ → List ℕ → List ℕ → Result (Option Side) Side → Type 0
Parted y t part (Ok None) = part ≡ []
Parted y t part (Ok (Some Yesterday)) = Stretch y t part
Parted y t part (Ok (Some Today)) = Stretch t y part
Parted y t part (Err s) = part ≡ []

-- `first_difference`: the part of one comparison, whose side `side` answers
pub record Part (y t part : List ℕ) : Type 0 where
  pub side : Result (Option Side) Side
  pub sides : Sides y t side
  pub is : Parted y t part side

-- a whole comparison as one row: a number and its place, the side of a fault, and the numbers of cuts gone, new and kept
pub record Compared : Type 0 where
  pub number : ℕ
  pub place : ℕ
  pub side : ℕ
  pub gone : ℕ
  pub new : ℕ
  pub kept : ℕ

-- a refusal: 20, the side, and no numbers
abbrev pub refused_of : Side → Compared
refused_of s = record { number = (side_answer (Err s)).number; place = (side_answer (Err s)).place; side = (side_answer (Err s)).side; gone = 0; new = 0; kept = 0 }

abbrev pub compared_of : Result Numbers Side → Compared
compared_of (Ok n) = record { number = 0; place = 0; side = 0; gone = n.gone; new = n.new; kept = n.kept }
compared_of (Err s) = refused_of s

-- `compare`: a refusal as `side` says, or the numbers
pub data Compares (y t : List ℕ) (r : Compared) : Type 0 where
  refused : (s : Side) → Fault y t s → r ≡ refused_of s → Compares y t r
  counted : Counts y t r.gone r.new r.kept → r.number ≡ 0 → r.place ≡ 0 → r.side ≡ 0 → Compares y t r
