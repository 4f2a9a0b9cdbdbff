-- The numbers that a root reaches, and the marks that say so.
-- Assumes nothing.
use Rattle.std.specs.Prelude.{◌≡◌, ◌⊎◌, List, ℕ, ◌≤◌, get_or}
use Rattle.tables.specs.Table.{failed_of, sound_of}

-- the root, and the branches of each node that is reached
pub data Reached (T : List ℕ) (root : ℕ) : ℕ → Type 0 where
  here : Reached T root root
  failed : (i : ℕ) → Reached T root i → 2 ≤ i → Reached T root (failed_of T i)
  sound : (i : ℕ) → Reached T root i → 2 ≤ i → Reached T root (sound_of T i)

-- 1 at the numbers that the root reaches, 0 at all others
pub record Marked (T : List ℕ) (root : ℕ) (K : List ℕ) : Type 0 where
  pub bit : (j : ℕ) → get_or K j 0 ≤ 1
  pub reached : (j : ℕ) → get_or K j 0 ≡ 1 → Reached T root j
  pub all : (j : ℕ) → Reached T root j → get_or K j 0 ≡ 1

-- the branches of node i are marked if it is, and nothing else
pub record Spread (T : List ℕ) (i : ℕ) (K K' : List ℕ) : Type 0 where
  pub failed : get_or K i 0 ≡ 1 → get_or K' (failed_of T i) 0 ≡ 1
  pub sound : get_or K i 0 ≡ 1 → get_or K' (sound_of T i) 0 ≡ 1
  pub each : (j : ℕ) → (get_or K' j 0 ≡ get_or K j 0) ⊎ ((get_or K i 0 ≡ 1) × (get_or K' j 0 ≡ 1) × ((j ≡ failed_of T i) ⊎ (j ≡ sound_of T i)))
