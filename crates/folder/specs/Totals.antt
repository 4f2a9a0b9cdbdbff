-- How many minimal cuts of each size the trees of a folder have together.
-- Assumes nothing.
use Rattle.std.specs.Prelude.{◌≡◌, List, map, ℕ, ◌≤◌, ◌<◌, length, get_or}
use Rattle.paper.specs.Lists.{sum}
use Rattle.paper.specs.Trees.{Tree}
use Rattle.paper.specs.Sizes.{cuts_of_size, largest, sizes}

-- THE TOTAL: how many minimal cuts with k members these trees have
unfoldable pub total_of : ℕ → List Tree → ℕ
total_of k ts = sum (map (λ t. cuts_of_size t k) ts)

-- 19: some total is above 2^64 - 1
pub record Above (ts : List Tree) : Type 0 where
  pub size : ℕ
  pub within : size < sizes
  pub large : largest < total_of size ts

-- not 19: every total can be answered
pub record Fits (ts : List Tree) : Type 0 where
  pub each : (k : ℕ) → k < sizes → total_of k ts ≤ largest

-- the lent counts C become the totals of all sizes, and what lies behind them stays
pub record Totals (ts : List Tree) (C C' : List ℕ) : Type 0 where
  pub long : length C' ≡ length C
  pub totals : (k : ℕ) → k < sizes → get_or C' k 0 ≡ total_of k ts
  pub behind : (k : ℕ) → sizes ≤ k → get_or C' k 0 ≡ get_or C k 0
