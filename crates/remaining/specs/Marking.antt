-- The search for the first set that misses K: what its pass upwards stores, and its way down.
-- Assumes nothing.
use Rattle.std.specs.Prelude.{◌≡◌, Bool, true, cond, ◌||◌, List, ℕ, ◌+◌, ◌≤◌, ◌<◌, length, get_or}
use Rattle.paper.specs.Sets.{Set}
use Rattle.tables.specs.Table.{den}
use Rattle.remaining.specs.Families.{CutDiagram}
use Rattle.remaining.specs.Recursion.{some_missing, first_in}

-- a mark
abbrev pub mark : Bool → ℕ
mark b = cond b 1 0

-- the area has a mark for each number below i: whether some set of it misses K
pub record Marked (T : List ℕ) (K : Set) (W : List ℕ) (i : ℕ) : Type 0 where
  pub at : (j : ℕ) → j < i → get_or W j 0 ≡ mark (some_missing K (den T j))

-- node i can be marked: it has room, and the numbers below it are marked
pub record Marking (n : ℕ) (T : List ℕ) (c : ℕ) (K : Set) (W : List ℕ) (i : ℕ) : Type 0 where
  pub diagram : CutDiagram n T c i
  pub node : 2 ≤ i
  pub room : i < length W
  pub marks : Marked T K W i

-- the root is marked, and some set of it misses K
pub record Leading (n : ℕ) (T : List ℕ) (c root : ℕ) (K : Set) (W : List ℕ) : Type 0 where
  pub diagram : CutDiagram n T c root
  pub room : root < length W
  pub marks : Marked T K W (root + 1)
  pub some : some_missing K (den T root) ≡ true

-- both sets in one
abbrev pub both : Set → Set → Set
both C S i = C i || S i

-- on the way down, at number i with the events of C taken: the first set of the root is C and the first set of i
pub record Following (T : List ℕ) (K : Set) (root : ℕ) (C : Set) (i : ℕ) : Type 0 where
  pub low : i ≤ root
  pub some : some_missing K (den T i) ≡ true
  pub is : first_in K (den T root) ≡ both C (first_in K (den T i))
