-- Two nodes of a store: taken apart and asked for.
-- Assumes nothing.
use Rattle.std.specs.Prelude.{◌≡◌, Bool, List, ℕ, ◌+◌, ◌-◌, ◌<◌, ◌≤◌, min, max, eqb}
use Rattle.paper.specs.Diagrams.{mk_d}
use Rattle.algebra.specs.Operations.{join_d}
use Rattle.tables.specs.Table.{den}
use Rattle.store.specs.Building.{Found, Tidy}
use Rattle.store.specs.Memo.{Memo, Place}
use Rattle.store.specs.declared.Known.{Known}
use Rattle.store.specs.declared.Known.TheVariants.{Node, Unknown}
use Rattle.store.specs.declared.Parts.{Parts}

-- the leaf of number z: it decides, and with 0, or with 1
abbrev pub bit : ℕ → Bool
bit z = eqb z 1

-- a result that the memo keeps is right: operation 1 is and, operation 2 is or
pub record Right (T : List ℕ) (c op f g r : ℕ) : Type 0 where
  pub op_low : 1 ≤ op
  pub op_high : op ≤ 2
  pub f_in : f < c + 2
  pub g_in : g < c + 2
  pub found : Found T c (join_d (bit (op - 1)) (den T f) (den T g)) r

-- two pairs of numbers, of each the lower first
pub record Arranged (e a₁ b₁ a₀ b₀ : ℕ) (p : Parts) : Type 0 where
  pub event : p.e ≡ e
  pub low_1 : p.f1 ≡ min a₁ b₁
  pub high_1 : p.g1 ≡ max a₁ b₁
  pub low_0 : p.f0 ≡ min a₀ b₀
  pub high_0 : p.g0 ≡ max a₀ b₀

-- f and g taken apart at the earlier of their events
pub record Parted (T : List ℕ) (f g : ℕ) (p : Parts) : Type 0 where
  pub order_1 : p.f1 ≤ p.g1
  pub order_0 : p.f0 ≤ p.g0
  pub in_1 : p.g1 ≤ max f g
  pub in_0 : p.g0 ≤ max f g
  pub less_1 : p.f1 + p.g1 < f + g
  pub less_0 : p.f0 + p.g0 < f + g
  pub joins : (z : Bool) → join_d z (den T f) (den T g) ≡ mk_d p.e (join_d z (den T p.f1) (den T p.g1)) (join_d z (den T p.f0) (den T p.g0))

-- r is the answer in every table for which the memo is right
pub record Answers (M : List ℕ) (z f g r : ℕ) : Type 0 where
  pub right : (T : List ℕ) (c : ℕ) → Tidy T c → Memo (Right T c) M → f < c + 2 → g < c + 2 → Found T c (join_d (bit z) (den T f) (den T g)) r

-- two nodes, and a place for their answer
pub record Misses (M : List ℕ) (f at : ℕ) : Type 0 where
  pub node : 2 ≤ f
  pub place : Place M at

abbrev pub Asked : List ℕ → ℕ → ℕ → ℕ → Known → Type 0
Asked M z f g (Node r) = Answers M z f g r
Asked M z f g (Unknown at) = Misses M f at
