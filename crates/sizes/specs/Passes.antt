-- What the passes over the list of reached nodes store.
-- Assumes nothing.
use Rattle.std.specs.Prelude.{◌≡◌, Option, Some, None, List, ℕ, ◌+◌, ◌≤◌, ◌<◌, length, get_or, set}
use Rattle.paper.specs.Diagrams.{Diagram}
use Rattle.paper.specs.Sizes.{largest, sizes}
use Rattle.tables.specs.Table.{den}
use Rattle.cuts.specs.Reach.{Reached}
use Rattle.sizes.specs.Recursion.{lowered, sized}

-- ---- one pass

-- the area W has the values g of both leaves and of the first p nodes of the list R
pub record Valued (g : ℕ → ℕ) (R W : List ℕ) (p : ℕ) : Type 0 where
  pub leaf : (j : ℕ) → j < 2 → get_or W j 0 ≡ g j
  pub node : (q : ℕ) → q < p → get_or W (get_or R q 0) 0 ≡ g (get_or R q 0)

-- in a pass for size k: the counts so far, each of which can be answered
pub record Passing (T R : List ℕ) (k : ℕ) (W : List ℕ) (p : ℕ) : Type 0 where
  pub values : Valued (λ j. sized (den T j) k) R W p
  pub small : (q : ℕ) → q < p → sized (den T (get_or R q 0)) k ≤ largest

-- the area B has the counts of the size below k, 0 where k is 0, of every number that the root reaches
pub record Before (T : List ℕ) (root k : ℕ) (B : List ℕ) : Type 0 where
  pub at : (j : ℕ) → Reached T root j → get_or B j 0 ≡ lowered (sized (den T j)) k
  pub small : (j : ℕ) → Reached T root j → lowered (sized (den T j)) k ≤ largest

-- some count of the root can not be answered
pub record Over (d : Diagram) : Type 0 where
  pub size : ℕ
  pub large : largest < sized d size

-- after a pass for size k
pub record Passed (T : List ℕ) (root k : ℕ) (W : List ℕ) (r : Option (Unit {0})) : Type 0 where
  pub fits : r ≡ Some tt → Before T root (k + 1) W
  pub over : r ≡ None → Over (den T root)

-- the sum of two counts goes to number i, unless it is above the largest
pub record Adds (B W : List ℕ) (i f s : ℕ) (r : Option (Unit {0})) (W' : List ℕ) : Type 0 where
  pub stored : r ≡ Some tt → (W' ≡ set W i (get_or B f 0 + get_or W s 0)) × (get_or B f 0 + get_or W s 0 ≤ largest)
  pub above : r ≡ None → largest < get_or B f 0 + get_or W s 0

-- ---- all sizes

-- the counts of the sizes below k, and zeros
pub record Totals (d : Diagram) (k : ℕ) (L : List ℕ) : Type 0 where
  pub long : length L ≡ sizes
  pub below : (j : ℕ) → j < k → get_or L j 0 ≡ sized d j
  pub small : (j : ℕ) → j < k → sized d j ≤ largest
  pub behind : (j : ℕ) → k ≤ j → get_or L j 0 ≡ 0

-- the counts of all sizes
pub record Whole (d : Diagram) (L : List ℕ) : Type 0 where
  pub at : (j : ℕ) → get_or L j 0 ≡ sized d j
  pub small : (j : ℕ) → sized d j ≤ largest

pub record Totalled (d : Diagram) (r : Option (List ℕ)) : Type 0 where
  pub fits : (L : List ℕ) → r ≡ Some L → Whole d L
  pub long : (L : List ℕ) → r ≡ Some L → length L ≡ sizes
  pub over : r ≡ None → Over d

-- the counts that were written, where they fit
abbrev pub totals_in : Option (Unit {0}) → List ℕ → Option (List ℕ)
totals_in (Some _) L = Some L
totals_in None L = None

-- the first m numbers of L stand in C', what C had stands behind them
pub record Written (m : ℕ) (C L C' : List ℕ) : Type 0 where
  pub at : (j : ℕ) → j < m → get_or C' j 0 ≡ get_or L j 0
  pub behind : (j : ℕ) → m ≤ j → get_or C' j 0 ≡ get_or C j 0
  pub long : length C' ≡ length C
