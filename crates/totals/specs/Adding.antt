-- Counts added to totals: inner promises, for the proof of the folder's call.
-- Assumes nothing.
use Rattle.std.specs.Prelude.{◌≡◌, Option, Some, None, List, ℕ, ◌+◌, ◌/◌, ◌≤◌, ◌<◌, length, get_or}
use Rattle.paper.specs.Limits.{limits}
use Rattle.paper.specs.Diagrams.{Diagram}
use Rattle.paper.specs.Sizes.{count_of, largest, sizes, sizes_area}
use Rattle.sizes.specs.Passes.{Written}

-- the areas serve a cut table as long as T
pub record Areas (T B W R : List ℕ) : Type 0 where
  pub less : sizes_area (length T / 3) ≤ length B
  pub work : sizes_area (length T / 3) ≤ length W
  pub reached : sizes_area (length T / 3) ≤ length R

-- the counts of a diagram's sets by size, over as many events as a tree may have
abbrev pub counts_of : Diagram → ℕ → ℕ
counts_of d k = count_of limits.events k d

-- the numbers of a list by their place
abbrev pub numbers_of : List ℕ → ℕ → ℕ
numbers_of C k = get_or C k 0

-- the numbers c are added to the list L below k; from k on it is as it was
pub record Adding (c : ℕ → ℕ) (k : ℕ) (L L' : List ℕ) : Type 0 where
  pub below : (j : ℕ) → j < k → get_or L' j 0 ≡ get_or L j 0 + c j
  pub small : (j : ℕ) → j < k → get_or L j 0 + c j ≤ largest
  pub behind : (j : ℕ) → k ≤ j → get_or L' j 0 ≡ get_or L j 0
  pub long : length L' ≡ length L

-- some sum is too large
pub record Beyond (c : ℕ → ℕ) (L : List ℕ) : Type 0 where
  pub size : ℕ
  pub within : size < sizes
  pub large : largest < get_or L size 0 + c size

-- all are added, or not all can be
pub record Added (c : ℕ → ℕ) (L L' : List ℕ) (r : Option (Unit {0})) : Type 0 where
  pub fits : r ≡ Some tt → Adding c sizes L L'
  pub over : r ≡ None → Beyond c L

-- whether all fits, after one more tree: where it did not before, it does not; otherwise all are added, or some sum is too large
pub record Due (c : ℕ → ℕ) (before : Option (Unit {0})) (L L' : List ℕ) (r : Option (Unit {0})) : Type 0 where
  pub stays : before ≡ None → r ≡ None
  pub fits : before ≡ Some tt → r ≡ Some tt → Adding c sizes L L'
  pub over : before ≡ Some tt → r ≡ None → Beyond c L

-- the counts C at the end: with 0 the totals L are written, with another number they stay
pub record Ends (number : ℕ) (C L C' : List ℕ) : Type 0 where
  pub done : number ≡ 0 → Written sizes C L C'
  pub refused : (number ≡ 0 → ⊥) → C' ≡ C
