-- Whether the lengths of a folder add up to its bytes.
-- Assumes nothing.
use mathlib.Core.Path.{◌≡◌, refl, ap}
use mathlib.Core.Bool.{Bool, true, false}
use mathlib.Core.List.{List}
use Prim.Native.Nat.{ℕ, ◌+◌, ◌-◌, ◌≤◌, ◌<◌}
use native.Mathlib.Omega.{arith}
use lib.ListN.{length, get_or, take}
use lib.Dec.{eqb}
use borrow.Author.Tests.{eqb-true, eqb-false}
use lib.Seq.{take_all}
use Rattle.paper.specs.Lists.{sum}
use Rattle.tables.specs.Flags.{Says}
use Rattle.build.proofs.Gates.{sum_next, sum_front}

-- what is left of a size behind the first i lengths
pub record Left (lengths : List ℕ) (size i left : ℕ) : Type 0 where
  pub count : i ≤ length lengths
  pub is : sum (take i lengths) + left ≡ size

pub left_none : (lengths : List ℕ) (size : ℕ) → Left lengths size 0 size
left_none lengths size = record { count = omega arith; is = omega arith }

module _ {lengths : List ℕ} {size i left : ℕ} (s : Left lengths size i left) where
  pub left_more : i < length lengths → get_or lengths i 0 ≤ left → Left lengths size (i + 1) (left - get_or lengths i 0)
  left_more h n = let e = s.is in let q = sum_next lengths i h in record { count = omega arith; is = omega arith }

  pub left_short : i < length lengths → left < get_or lengths i 0 → sum lengths ≡ size → ⊥
  left_short h l w = let e = s.is in let q = sum_next lengths i h in let f = sum_front lengths (i + 1) in omega arith

  left_end : length lengths ≤ i → left + sum lengths ≡ size
  left_end h = let e = s.is in let q = ap sum (take_all i lengths h) in omega arith

  pub left_says : length lengths ≤ i → Says (eqb left 0) (sum lengths ≡ size)
  left_says h = go (eqb left 0) refl
    where
      go : (b : Bool) → eqb left 0 ≡ b → Says b (sum lengths ≡ size)
      go true q = let e = left_end h in let z = eqb-true left 0 q in omega arith
      go false q = λ w. let e = left_end h in eqb-false left 0 q (omega arith)
