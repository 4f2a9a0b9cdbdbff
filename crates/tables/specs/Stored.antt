-- What holds of the first c slots of a table: enough for each number to denote a diagram, and what a table that was built holds besides.
-- Assumes nothing.
use Rattle.std.specs.Prelude.{◌≡◌, List, ℕ, ◌+◌, ◌*◌, ◌≤◌, ◌<◌, get_or}
use Rattle.tables.specs.Table.{event_at, failed_at, sound_at}

-- branches have lower numbers than their node
pub record Lower (T : List ℕ) (c : ℕ) : Type 0 where
  pub failed : (k : ℕ) → k < c → failed_at T k < k + 2
  pub sound : (k : ℕ) → k < c → sound_at T k < k + 2

-- no two nodes are equal: not asked of a lent table
pub record Unique (T : List ℕ) (c : ℕ) : Type 0 where
  pub same : (j k : ℕ) → j < c → k < c → event_at T j ≡ event_at T k → failed_at T j ≡ failed_at T k → sound_at T j ≡ sound_at T k → j ≡ k

-- zeros behind the nodes: not asked of a lent table
pub record ZeroBehind (T : List ℕ) (c : ℕ) : Type 0 where
  pub zero : (p : ℕ) → 3 * c ≤ p → get_or T p 0 ≡ 0

-- the first c nodes of T are those of T'
pub record Kept (T T' : List ℕ) (c : ℕ) : Type 0 where
  pub event : (k : ℕ) → k < c → event_at T k ≡ event_at T' k
  pub failed : (k : ℕ) → k < c → failed_at T k ≡ failed_at T' k
  pub sound : (k : ℕ) → k < c → sound_at T k ≡ sound_at T' k
