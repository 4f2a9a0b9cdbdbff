-- The list of the nodes that a root reaches, made of the marks in the same area.
-- Assumes nothing.
use Rattle.std.specs.Prelude.{◌≡◌, ◌≢◌, List, ℕ, ◌+◌, ◌≤◌, ◌<◌, length, get_or, set}
use Rattle.cuts.specs.Reach.{Reached}

-- number i goes behind the first m numbers of the list if it is marked
pub record Takes (i m : ℕ) (R R' : List ℕ) (m' : ℕ) : Type 0 where
  pub marked : get_or R i 0 ≡ 1 → (R' ≡ set R m i) × (m' ≡ m + 1)
  pub skipped : get_or R i 0 ≢ 1 → (R' ≡ R) × (m' ≡ m)

-- j is one of the first m numbers of the list
pub record Place (R : List ℕ) (m j : ℕ) : Type 0 where
  pub at : ℕ
  pub within : at < m
  pub is : get_or R at 0 ≡ j

-- the first m numbers of R are the numbers from 2 on, below i, that K marks, in rising order
pub record Collecting (K R : List ℕ) (m i : ℕ) : Type 0 where
  pub short : m + 2 ≤ i
  pub node : (p : ℕ) → p < m → 2 ≤ get_or R p 0
  pub below : (p : ℕ) → p < m → get_or R p 0 < i
  pub marked : (p : ℕ) → p < m → get_or K (get_or R p 0) 0 ≡ 1
  pub rising : (p q : ℕ) → p < q → q < m → get_or R p 0 < get_or R q 0
  pub all : (j : ℕ) → 2 ≤ j → j < i → get_or K j 0 ≡ 1 → Place R m j
  pub behind : (j : ℕ) → i ≤ j → get_or R j 0 ≡ get_or K j 0
  pub long : length R ≡ length K

-- THE LIST: the first m numbers of R are the nodes that the root reaches, in rising order
pub record Listed (T : List ℕ) (root : ℕ) (R : List ℕ) (m : ℕ) : Type 0 where
  pub short : m ≤ length R
  pub node : (p : ℕ) → p < m → 2 ≤ get_or R p 0
  pub reached : (p : ℕ) → p < m → Reached T root (get_or R p 0)
  pub rising : (p q : ℕ) → p < q → q < m → get_or R p 0 < get_or R q 0
  pub all : (j : ℕ) → Reached T root j → 2 ≤ j → Place R m j
