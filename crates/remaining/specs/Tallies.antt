-- What `holding` answers and leaves, for any arguments, in sets and families alone: K is the set, l the family, n the events.
-- Assumes nothing.
use Rattle.std.specs.Prelude.{◌≡◌, List, ℕ, ◌/◌, ◌≤◌, ◌<◌, length, get_or}
use Rattle.paper.specs.Sets.{Set}
use Rattle.paper.specs.Sizes.{largest}
use Rattle.paper.specs.Planner.{holding, holding_area}
use Rattle.paper.specs.Answers.{Beyond}
use Rattle.sets.specs.Words.{set_of}
use Rattle.remaining.specs.Families.{CutDiagram, family, Cleared}

-- not 9: a count for each of the n events, and both areas for the table T
pub record Enough (n : ℕ) (T C B W : List ℕ) : Type 0 where
  pub counts : n ≤ length C
  pub below : holding_area (length T / 3) ≤ length B
  pub ways : holding_area (length T / 3) ≤ length W

-- not 19: each count can be answered
abbrev pub Fits : ℕ → Set → List Set → Type 0
Fits n K l = (e : ℕ) → e < n → holding n K l e ≤ largest

-- 19: some event is in more than 2^64 - 1 of the cuts that remain
pub record TooMany (n : ℕ) (K : Set) (l : List Set) : Type 0 where
  pub event : ℕ
  pub inside : event < n
  pub larger : largest < holding n K l event

-- a refusal before anything is written
pub record Unwritten (why number place : ℕ) (C B W C' B' W' : List ℕ) : Type 0 where
  pub number_is : number ≡ why
  pub no_place : place ≡ 0
  pub counts : C' ≡ C
  pub below : B' ≡ B
  pub ways : W' ≡ W

-- 19: the counts stay
pub record Stopped (number place : ℕ) (C B W C' B' W' : List ℕ) : Type 0 where
  pub number_is : number ≡ 19
  pub no_place : place ≡ 0
  pub counts : C' ≡ C
  pub below : Cleared B B'
  pub ways : Cleared W W'

-- done: a count for each event, and what lay behind them
pub record Tallied (n : ℕ) (K : Set) (l : List Set) (number place : ℕ) (C B W C' B' W' : List ℕ) : Type 0 where
  pub number_is : number ≡ 0
  pub no_place : place ≡ 0
  pub counts : (e : ℕ) → e < n → get_or C' e 0 ≡ holding n K l e
  pub behind : (e : ℕ) → n ≤ e → get_or C' e 0 ≡ get_or C e 0
  pub long : length C' ≡ length C
  pub below : Cleared B B'
  pub ways : Cleared W W'

-- 19, or done
pub data Summed (n : ℕ) (K : Set) (l : List Set) (number place : ℕ) (C B W C' B' W' : List ℕ) : Type 0 where
  over : TooMany n K l → Stopped number place C B W C' B' W' → Summed n K l number place C B W C' B' W'
  exact : Fits n K l → Tallied n K l number place C B W C' B' W' → Summed n K l number place C B W C' B' W'

-- THE CONTRACT of `holding`: 12, then 9, 13, 19, or done
pub data Holding (n : ℕ) (T : List ℕ) (c root : ℕ) (ws : List ℕ) (number place : ℕ) (C B W C' B' W' : List ℕ) : Type 0 where
  no_diagram : (CutDiagram n T c root → ⊥) → Unwritten 12 number place C B W C' B' W' → Holding n T c root ws number place C B W C' B' W'
  too_short : CutDiagram n T c root → (Enough n T C B W → ⊥) → Unwritten 9 number place C B W C' B' W' → Holding n T c root ws number place C B W C' B' W'
  beyond : CutDiagram n T c root → Enough n T C B W → Beyond n (set_of ws) → Unwritten 13 number place C B W C' B' W' → Holding n T c root ws number place C B W C' B' W'
  summed : CutDiagram n T c root → Enough n T C B W → (Beyond n (set_of ws) → ⊥) → Summed n (set_of ws) (family T root) number place C B W C' B' W'
      → Holding n T c root ws number place C B W C' B' W'
