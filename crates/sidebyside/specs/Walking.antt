-- A walk along a listing, cut by cut, and what is left of it.
-- Assumes nothing.
use Rattle.std.specs.Prelude.{◌≡◌, List, ◌++◌, ℕ, ◌+◌, ◌≤◌, length, drop, Option, None, Some, Result, Ok, Err}
use Rattle.paper.specs.Lists.{In}
use Rattle.paper.specs.GoodListing.{Good}
use Rattle.sidebyside.specs.Members.{RisingFrom, Lt, Rows, AllRising, cuts_bytes, Held}
use Rattle.sidebyside.specs.OneCut.{Ends}
use Rattle.sidebyside.specs.Sided.{Fault}
use Rattle.sidebyside.specs.declared.Side.{Side}

-- the cuts ps stand in s up to i, in order
pub record Passed (s : List ℕ) (i : ℕ) (ps : List (List ℕ)) : Type 0 where
  pub bytes : s ≡ cuts_bytes ps ++ drop i s
  pub place : i ≡ length (cuts_bytes ps)
  pub rising : AllRising ps
  pub rows : Rows ps

-- members that rise, of a cut that stands behind all of ps
abbrev pub After : List (List ℕ) → List ℕ → Type 0
After ps es = RisingFrom 0 es × ((p : List ℕ) → In p ps → Lt p es)

-- ps are passed, and e is the end of the cut that stands next, at i: 0 where none stands there that goes on in order
pub record Standing (s : List ℕ) (i e : ℕ) (ps : List (List ℕ)) : Type 0 where
  pub passed : Passed s i ps
  pub next : Ends (After ps) s i e

pub record Walked (s : List ℕ) (i e : ℕ) : Type 0 where
  pub cuts : List (List ℕ)
  pub standing : Standing s i e cuts

-- s is good, and n of its cuts stand from i on
pub record Ahead (s : List ℕ) (i n : ℕ) : Type 0 where
  pub front : List (List ℕ)
  pub rest : List (List ℕ)
  pub passed : Passed s i front
  pub held : Held s (front ++ rest)
  pub many : n ≡ length rest
  pub few : i + n ≤ length s

-- what is left of s from i on: so many cuts, or a fault
abbrev pub Tailed : List ℕ → ℕ → Option ℕ → Type 0
Tailed s i None = Good s → ⊥
Tailed s i (Some n) = Ahead s i n

-- what is left of both, or whose fault refuses
abbrev pub BothTailed : List ℕ → ℕ → List ℕ → ℕ → Result (ℕ × ℕ) Side → Type 0
BothTailed y i t j (Ok r) = Ahead y i r.0 × Ahead t j r.1
BothTailed y i t j (Err s) = Fault y t s
