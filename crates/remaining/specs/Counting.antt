-- The counting: numbers that are exact up to the largest and otherwise only known to be above it, and what the two passes over the table store.
-- Assumes nothing.
use Rattle.std.specs.Prelude.{◌≡◌, ◌≢◌, List, ℕ, zero, suc, ◌+◌, ◌*◌, ◌≤◌, ◌<◌, min, length, get_or, replicate, Option, None, Some}
use Rattle.paper.specs.Limits.{limits}
use Rattle.paper.specs.Sets.{Set}
use Rattle.paper.specs.Sizes.{largest}
use Rattle.tables.specs.Table.{den}
use Rattle.remaining.specs.Families.{CutDiagram}
use Rattle.remaining.specs.Recursion.{count_missing, count_holding}

-- the first number that can't be answered
abbrev pub above : ℕ
above = 18_446_744_073_709_551_616

-- a number, cut off there
unfoldable pub capped : ℕ → ℕ
capped x = min x above

-- two words as a number: the second is 0, or 1 for a number that was cut off
abbrev pub value : ℕ → ℕ → ℕ
value low high = low + above * high

-- a number that may be above the largest: then it is not there, and is cut off
abbrev pub amount : Option ℕ → ℕ
amount None = above
amount (Some x) = x

-- the number of i in an area of two words for each
abbrev pub many_at : List ℕ → ℕ → ℕ
many_at A i = value (get_or A (2 * i) 0) (get_or A (2 * i + 1) 0)

-- the number of i is v next, and all others stay
pub record Stored (A : List ℕ) (i v : ℕ) (A' : List ℕ) : Type 0 where
  pub here : many_at A' i ≡ v
  pub there : (j : ℕ) → j ≢ i → many_at A' j ≡ many_at A j
  pub long : length A' ≡ length A

-- upwards: how many sets of each number below i miss K
pub record Counted (T : List ℕ) (K : Set) (B : List ℕ) (i : ℕ) : Type 0 where
  pub at : (j : ℕ) → j < i → many_at B j ≡ capped (count_missing K (den T j))

-- node i can be counted: it has room, and the numbers below it are counted
pub record Counting (n : ℕ) (T : List ℕ) (c : ℕ) (K : Set) (B : List ℕ) (i : ℕ) : Type 0 where
  pub diagram : CutDiagram n T c i
  pub node : 2 ≤ i
  pub room : 2 * i + 1 < length B
  pub counts : Counted T K B i

-- the sum of w j * h j for j below k
unfoldable pub weigh : (ℕ → ℕ) → (ℕ → ℕ) → ℕ → ℕ
weigh w h zero = 0
weigh w h (suc k) = weigh w h k + w k * h k

-- downwards, with the numbers from i on done: so many ways lead to each number below i, and so many sets that hold e were met; the others
-- that hold e are those of these numbers, each as often as ways lead to it
pub record Spreading (T : List ℕ) (K : Set) (root : ℕ) (W H : List ℕ) (i : ℕ) : Type 0 where
  pub ways : ℕ → ℕ
  pub met : ℕ → ℕ
  pub long : length H ≡ 2 * limits.events
  pub ways_at : (j : ℕ) → j < i → many_at W j ≡ capped (ways j)
  pub met_at : (e : ℕ) → many_at H e ≡ capped (met e)
  pub all : (e : ℕ) → count_holding K e (den T root) ≡ met e + weigh ways (λ j. count_holding K e (den T j)) i

-- a step from i to the number below it, whatever the root is
abbrev pub Spread : List ℕ → Set → List ℕ → List ℕ → ℕ → List ℕ → List ℕ → Type 0
Spread T K W H i W' H' = (root : ℕ) → Spreading T K root W H (i + 1) → Spreading T K root W' H' i

-- what it takes at node i
pub record Spreads (n : ℕ) (T : List ℕ) (c : ℕ) (K : Set) (B W : List ℕ) (i : ℕ) : Type 0 where
  pub diagram : CutDiagram n T c i
  pub node : 2 ≤ i
  pub below : 2 * i + 1 < length B
  pub ways : 2 * i + 1 < length W
  pub counts : Counted T K B i

-- what the pass takes
pub record Ready (n : ℕ) (T : List ℕ) (c root : ℕ) (K : Set) (B W H : List ℕ) : Type 0 where
  pub diagram : CutDiagram n T c root
  pub below : 2 * root + 1 < length B
  pub ways : 2 * root + 1 < length W
  pub counts : Counted T K B (root + 1)
  pub zeros : H ≡ replicate (2 * limits.events) 0

-- in the end: how many sets hold each event
pub record Held (T : List ℕ) (K : Set) (root : ℕ) (H : List ℕ) : Type 0 where
  pub long : length H ≡ 2 * limits.events
  pub at : (e : ℕ) → many_at H e ≡ capped (count_holding K e (den T root))

-- r is the lowest event whose number is cut off, or n
pub record FirstOver (H : List ℕ) (n r : ℕ) : Type 0 where
  pub within : r ≤ n
  pub over : r < n → get_or H (2 * r + 1) 0 ≢ 0
  pub exact : (e : ℕ) → e < r → get_or H (2 * e + 1) 0 ≡ 0

-- the first words of the first m numbers stand in C', what C had stands behind them
pub record Written (m : ℕ) (C H C' : List ℕ) : Type 0 where
  pub at : (e : ℕ) → e < m → get_or C' e 0 ≡ get_or H (2 * e) 0
  pub small : (e : ℕ) → e < m → get_or H (2 * e) 0 ≤ largest
  pub behind : (e : ℕ) → m ≤ e → get_or C' e 0 ≡ get_or C e 0
  pub long : length C' ≡ length C
