-- What counting by size answers and leaves, for any arguments: 12, then 9, then 19, or 0 with the counts.
-- Assumes nothing.
use Rattle.std.specs.Prelude.{◌≡◌, true, List, ℕ, ◌/◌, ◌≤◌, ◌<◌, length, get_or, replicate}
use Rattle.paper.specs.Diagrams.{Diagram}
use Rattle.paper.specs.Sizes.{count_of, largest, sizes, sizes_area}
use Rattle.tables.specs.Table.{den}
use Rattle.tables.specs.Lent.{Lent}

-- not 9: a count for each size, and the smallest length of each area for the table T
pub record Enough (T C B W R : List ℕ) : Type 0 where
  pub counts : sizes ≤ length C
  pub less : sizes_area (length T / 3) ≤ length B
  pub work : sizes_area (length T / 3) ≤ length W
  pub reached : sizes_area (length T / 3) ≤ length R

-- not 19: every count can be answered
pub record Fits (n : ℕ) (d : Diagram) : Type 0 where
  pub each : (k : ℕ) → count_of n k d ≤ largest

-- 19: some true count is above 2^64 - 1, of a size that there is
pub record TooMany (n : ℕ) (d : Diagram) : Type 0 where
  pub size : ℕ
  pub within : size ≤ n
  pub above : largest < count_of n size d

-- a refusal before anything is written
pub record Refused (why number place : ℕ) (C B W R C' B' W' R' : List ℕ) : Type 0 where
  pub number_is : number ≡ why
  pub no_place : place ≡ 0
  pub counts : C' ≡ C
  pub less : B' ≡ B
  pub work : W' ≡ W
  pub reached : R' ≡ R

-- zero in the areas, to their last number
pub record Cleared (B W R B' W' R' : List ℕ) : Type 0 where
  pub less : B' ≡ replicate (length B) 0
  pub work : W' ≡ replicate (length W) 0
  pub reached : R' ≡ replicate (length R) 0

-- 19: the counts stay
pub record Stopped (number place : ℕ) (C C' : List ℕ) : Type 0 where
  pub number_is : number ≡ 19
  pub no_place : place ≡ 0
  pub counts : C' ≡ C

-- done: the counts of all sizes, and what lay behind them
pub record Done (n : ℕ) (d : Diagram) (number place : ℕ) (C C' : List ℕ) : Type 0 where
  pub number_is : number ≡ 0
  pub no_place : place ≡ 0
  pub counts : (k : ℕ) → k < sizes → get_or C' k 0 ≡ count_of n k d
  pub behind : (k : ℕ) → sizes ≤ k → get_or C' k 0 ≡ get_or C k 0
  pub long : length C' ≡ length C

-- a cut diagram of n events, its table T, stated node count c and root; the answer's number and place; the lent counts C and the areas before and after:
-- one of four answers, the first whose rule is broken, or done
pub data Counted (n : ℕ) (T : List ℕ) (c root number place : ℕ) (C B W R C' B' W' R' : List ℕ) : Type 0 where
  no_diagram : (Lent true n T c root → ⊥) → Refused 12 number place C B W R C' B' W' R' → Counted n T c root number place C B W R C' B' W' R'
  too_short : Lent true n T c root → (Enough T C B W R → ⊥) → Refused 9 number place C B W R C' B' W' R' → Counted n T c root number place C B W R C' B' W' R'
  too_many : Lent true n T c root → Enough T C B W R → TooMany n (den T root) → Stopped number place C C' → Cleared B W R B' W' R'
      → Counted n T c root number place C B W R C' B' W' R'
  done : Lent true n T c root → Enough T C B W R → Fits n (den T root) → Done n (den T root) number place C C' → Cleared B W R B' W' R'
      → Counted n T c root number place C B W R C' B' W' R'
