-- What the bracket answers and leaves, for any arguments: 12, then 9, then 7, or 0 with the two numbers.
-- Assumes nothing.
use Rattle.std.specs.Prelude.{◌≡◌, false, List, ℕ, ◌/◌, ◌≤◌, ◌<◌, length, get_or, replicate}
use Rattle.paper.specs.Limits.{billion}
use Rattle.paper.specs.Chance.{low, high}
use Rattle.tables.specs.Table.{den}
use Rattle.tables.specs.Lent.{Lent}

-- the chance of event i in a list of chances
abbrev pub chance_in : List ℕ → ℕ → ℕ
chance_in A i = get_or A i 0

-- not 9: a chance for each of the n events, and a number in both work areas for each node that the table T has room for
pub record Enough (n : ℕ) (T A L H : List ℕ) : Type 0 where
  pub chances : n ≤ length A
  pub lows : length T / 3 ≤ length L
  pub highs : length T / 3 ≤ length H

-- not 7: none of the first n chances is above D, whether a node has the event or not
pub record Chances (n : ℕ) (A : List ℕ) : Type 0 where
  pub each : (e : ℕ) → e < n → chance_in A e ≤ billion

-- a refusal: its number, place 0, both ends 0, nothing written
pub record Refused (why number place lo hi : ℕ) (L H L' H' : List ℕ) : Type 0 where
  pub number_is : number ≡ why
  pub no_place : place ≡ 0
  pub no_low : lo ≡ 0
  pub no_high : hi ≡ 0
  pub lows : L' ≡ L
  pub highs : H' ≡ H

-- done: the two numbers of the denoted diagram, and zero in the work areas to their last number
pub record Done (T : List ℕ) (root : ℕ) (A : List ℕ) (number place lo hi : ℕ) (L H L' H' : List ℕ) : Type 0 where
  pub number_is : number ≡ 0
  pub no_place : place ≡ 0
  pub low_is : lo ≡ low billion (chance_in A) (den T root)
  pub high_is : hi ≡ high billion (chance_in A) (den T root)
  pub lows : L' ≡ replicate (length L) 0
  pub highs : H' ≡ replicate (length H) 0

-- a diagram of n events, its table T, stated node count c and root, chances A; the answer's number, place and ends; the work areas before and after:
-- one of four answers, the first whose rule is broken, or done
pub data Bracketed (n : ℕ) (T : List ℕ) (c root : ℕ) (A : List ℕ) (number place lo hi : ℕ) (L H L' H' : List ℕ) : Type 0 where
  no_diagram : (Lent false n T c root → ⊥) → Refused 12 number place lo hi L H L' H' → Bracketed n T c root A number place lo hi L H L' H'
  too_short : Lent false n T c root → (Enough n T A L H → ⊥) → Refused 9 number place lo hi L H L' H' → Bracketed n T c root A number place lo hi L H L' H'
  no_chance : Lent false n T c root → Enough n T A L H → (Chances n A → ⊥) → Refused 7 number place lo hi L H L' H' → Bracketed n T c root A number place lo hi L H L' H'
  done : Lent false n T c root → Enough n T A L H → Chances n A → Done T root A number place lo hi L H L' H' → Bracketed n T c root A number place lo hi L H L' H'
