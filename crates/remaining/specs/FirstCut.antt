-- What `first_missing` answers and leaves, for any arguments, in sets and families alone: K is the set, l the family, n the events.
-- Assumes nothing.
use Rattle.std.specs.Prelude.{◌≡◌, Bool, true, false, List, [], ℕ, ◌/◌, ◌≤◌, length, replicate}
use Rattle.paper.specs.Sets.{Set}
use Rattle.paper.specs.Planner.{remaining, FirstMissing, missing_area}
use Rattle.paper.specs.Answers.{Beyond}
use Rattle.sets.specs.Words.{words, set_of}
use Rattle.remaining.specs.Families.{CutDiagram, family, Cleared}

-- not 9, for the table T
abbrev pub Room : List ℕ → List ℕ → Type 0
Room T W = missing_area (length T / 3) ≤ length W

-- a refusal: no cut, the empty set, and nothing is written
pub record Refused (why number place : ℕ) (found : Bool) (cut W W' : List ℕ) : Type 0 where
  pub number_is : number ≡ why
  pub no_place : place ≡ 0
  pub not_found : found ≡ false
  pub empty_set : cut ≡ replicate words 0
  pub area : W' ≡ W

-- what is found: the first cut that misses K, or none, and then the empty set stands in its place
abbrev pub Finds : ℕ → Set → List Set → Bool → List ℕ → Type 0
Finds n K l true cut = FirstMissing n K l (set_of cut)
Finds n K l false cut = (remaining n K l ≡ []) × (cut ≡ replicate words 0)

-- done
pub record Searched (n : ℕ) (K : Set) (l : List Set) (number place : ℕ) (found : Bool) (cut W W' : List ℕ) : Type 0 where
  pub number_is : number ≡ 0
  pub no_place : place ≡ 0
  pub long : length cut ≡ words
  pub finds : Finds n K l found cut
  pub area : Cleared W W'

-- THE CONTRACT of `first_missing`: 12, then 9, then 13, or done
pub data Missing (n : ℕ) (T : List ℕ) (c root : ℕ) (ws : List ℕ) (number place : ℕ) (found : Bool) (cut W W' : List ℕ) : Type 0 where
  no_diagram : (CutDiagram n T c root → ⊥) → Refused 12 number place found cut W W' → Missing n T c root ws number place found cut W W'
  too_short : CutDiagram n T c root → (Room T W → ⊥) → Refused 9 number place found cut W W' → Missing n T c root ws number place found cut W W'
  beyond : CutDiagram n T c root → Room T W → Beyond n (set_of ws) → Refused 13 number place found cut W W' → Missing n T c root ws number place found cut W W'
  searched : CutDiagram n T c root → Room T W → (Beyond n (set_of ws) → ⊥) → Searched n (set_of ws) (family T root) number place found cut W W'
      → Missing n T c root ws number place found cut W W'
