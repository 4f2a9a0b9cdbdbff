-- The numbers of an analysis that has written nothing.
-- Assumes nothing.
use mathlib.Core.Path.{◌≡◌}
use mathlib.Core.Logic.{◌≢◌, inl, inr}
use Prim.Native.Nat.{ℕ, ◌≤◌, ◌<◌}
use native.Mathlib.Decide.{ℕ_discrete}
use native.Mathlib.Omega.{arith}
use Rattle.paper.specs.Answers.{Unwritten}

module _ (k : ℕ) where
  -- up to 9, but 0
  pub unwritten_low : k ≢ 0 → k ≤ 9 → Unwritten k
  unwritten_low some low = go (ℕ_discrete k 9)
    where
      go : Dec (k ≡ 9) → Unwritten k
      go (yes e) = inr e
      go (no h) = inl (inl (omega arith, omega arith))

  -- 0, and all above 9 but 21, are not
  pub unwritten_some : Unwritten k → k ≢ 0
  unwritten_some (inl (inl (l, h))) e = omega arith
  unwritten_some (inl (inr q)) e = omega arith
  unwritten_some (inr q) e = omega arith

  pub unwritten_few : Unwritten k → 9 < k → k ≡ 21
  unwritten_few (inl (inl (l, h))) m = absurd (omega arith)
  unwritten_few (inl (inr q)) m = q
  unwritten_few (inr q) m = absurd (omega arith)
