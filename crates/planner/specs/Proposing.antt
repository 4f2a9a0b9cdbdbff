-- What `plan` answers and leaves, for any arguments: n events, l the family of the lent cut diagram.
-- Assumes nothing.
use Rattle.std.specs.Prelude.{◌≡◌, List, ℕ, ◌/◌, ◌≤◌, length, replicate}
use Rattle.paper.specs.Sets.{none}
use Rattle.paper.specs.Planner.{Plans, holding_area}
use Rattle.sets.specs.Words.{words, set_of}
use Rattle.remaining.specs.Families.{CutDiagram, family, Cleared}
use Rattle.remaining.specs.Tallies.{Fits, TooMany}

-- not 9: both areas are long enough for the table T
pub record Areas (T B W : List ℕ) : Type 0 where
  pub below : holding_area (length T / 3) ≤ length B
  pub ways : holding_area (length T / 3) ≤ length W

-- a refusal before anything is written
pub record Refused (why number place : ℕ) (set B W B' W' : List ℕ) : Type 0 where
  pub number_is : number ≡ why
  pub no_place : place ≡ 0
  pub empty_set : set ≡ replicate words 0
  pub below : B' ≡ B
  pub ways : W' ≡ W

-- 19
pub record Stopped (number place : ℕ) (set B W B' W' : List ℕ) : Type 0 where
  pub number_is : number ≡ 19
  pub no_place : place ≡ 0
  pub empty_set : set ≡ replicate words 0
  pub below : Cleared B B'
  pub ways : Cleared W W'

-- done: the set is the plan
pub record Planned (n : ℕ) (T : List ℕ) (root number place : ℕ) (set B W B' W' : List ℕ) : Type 0 where
  pub number_is : number ≡ 0
  pub no_place : place ≡ 0
  pub long : length set ≡ words
  pub plan : Plans n (family T root) none (set_of set)
  pub below : Cleared B B'
  pub ways : Cleared W W'

-- THE CONTRACT of `plan`: 12, then 9, then 19, or done
pub data Proposes (n : ℕ) (T : List ℕ) (c root number place : ℕ) (set B W B' W' : List ℕ) : Type 0 where
  no_diagram : (CutDiagram n T c root → ⊥) → Refused 12 number place set B W B' W' → Proposes n T c root number place set B W B' W'
  too_short : CutDiagram n T c root → (Areas T B W → ⊥) → Refused 9 number place set B W B' W' → Proposes n T c root number place set B W B' W'
  too_many : CutDiagram n T c root → Areas T B W → TooMany n none (family T root) → Stopped number place set B W B' W' → Proposes n T c root number place set B W B' W'
  planned : CutDiagram n T c root → Areas T B W → Fits n none (family T root) → Planned n T root number place set B W B' W' → Proposes n T c root number place set B W B' W'
