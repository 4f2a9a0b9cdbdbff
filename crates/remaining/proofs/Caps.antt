-- Numbers that are cut off above the largest: sums and products of such numbers still say what the true one is, or that it is above.
-- Assumes nothing.
use mathlib.Core.Path.{◌≡◌, refl, sym, ap, ◌∙◌}
use mathlib.Core.Logic.{◌≢◌, ◌⊎◌, inl, inr}
use mathlib.Core.Bool.{Bool, true, false}
use mathlib.Core.List.{List}
use Prim.Native.Nat.{ℕ, zero, suc, ◌+◌, ◌*◌, ◌≤◌, ◌<◌}
use native.Mathlib.Nat.{mul-le-mul_right, min-eq_left, min-eq_right}
use native.Mathlib.Omega.{arith}
use lib.Dec.{leb}
use borrow.Author.Tests.{leb-true, leb-false}
use Rattle.paper.specs.Sizes.{largest}
use Rattle.remaining.specs.Counting.{above, capped, value, amount, many_at, Stored}
use Rattle.std.specs.Prelude.{Option, None, Some}
use Rattle.std.specs.Option.{SomeIff}

-- ---- what a number that may be cut off says

pub cap_below : (x : ℕ) → x ≤ largest → capped x ≡ x
unfolding capped
cap_below x h = min-eq_left (omega arith)

pub cap_above : (x : ℕ) → largest < x → capped x ≡ above
unfolding capped
cap_above x h = min-eq_right (omega arith)

cap_at : (x : ℕ) → above ≤ x → capped x ≡ above
unfolding capped
cap_at x h = min-eq_right h

pub cap_small : (x : ℕ) → capped x ≤ above
unfolding capped
cap_small x = omega arith

-- the second word is 0: the first is the number, and it can be answered
pub cap_exact : (x low high : ℕ) → value low high ≡ capped x → high ≡ 0 → low ≤ largest → x ≡ low
unfolding capped
cap_exact x low high q h l = omega (arith, q, h, l)

-- it is not 0: the number can't be
pub cap_over : (x low high : ℕ) → value low high ≡ capped x → high ≢ 0 → largest < x
unfolding capped
cap_over x low high q h = go high refl h
  where
    go : (k : ℕ) → high ≡ k → k ≢ 0 → largest < x
    go zero e n = absurd (n refl)
    go (suc k) e n = omega (arith, q, e)

-- ---- sums

pub cap_add : (x y : ℕ) → capped (capped x + capped y) ≡ capped (x + y)
unfolding capped
cap_add x y = omega arith

-- a number that is stored cut off is read so
pub cap_read : (x : ℕ) {v a : ℕ} → v ≡ capped a → a ≡ capped x → v ≡ capped x
unfolding capped
cap_read x {v} {a} p q = omega (arith, p, q)

pub sum_over : (x y : ℕ) → above ≤ x + y → above ≡ capped (x + y)
sum_over x y h = sym (cap_at (x + y) h)

-- ---- products

big : (u v : ℕ) → above ≤ u → 0 < v → above ≤ u * v
big u (suc v) h p = omega (arith, mul-le-mul_right v h)
big u zero h p = absurd (omega arith)

swap : (u v : ℕ) → u * v ≡ v * u
swap u v = omega arith

none_or : (v : ℕ) → (v ≡ 0) ⊎ (0 < v)
none_or zero = inl refl
none_or (suc v) = inr (omega arith)

cap_none : capped 0 ≡ 0
unfolding capped
cap_none = omega arith

cap_under : (x : ℕ) → x < above → capped x ≡ x
unfolding capped
cap_under x h = min-eq_left (omega arith)

-- 0 times a number that was cut off is 0
one_side : (u v : ℕ) → above ≤ u → (v ≡ 0) ⊎ (0 < v) → capped (above * v) ≡ capped (u * v)
one_side u v h (inl q) = let e : above * v ≡ u * v = rw q (omega arith) in ap capped e
one_side u v h (inr q) = cap_at (above * v) (big above v (omega arith) q) ∙ sym (cap_at (u * v) (big u v h q))

pub cap_mul : (x y : ℕ) → capped (capped x * capped y) ≡ capped (x * y)
cap_mul x y = go (leb above x) refl (leb above y) refl
  where
    go : (a : Bool) → leb above x ≡ a → (b : Bool) → leb above y ≡ b → capped (capped x * capped y) ≡ capped (x * y)
    go true p true q = rw (cap_at x (leb-true above x p), cap_at y (leb-true above y q))
        (one_side x above (leb-true above x p) (none_or above) ∙ ap capped (swap x above) ∙ one_side y x (leb-true above y q) (none_or x) ∙ ap capped (swap y x))
    go true p false q = rw (cap_at x (leb-true above x p), cap_under y (leb-false above y q)) (one_side x y (leb-true above x p) (none_or y))
    go false p true q = rw (cap_under x (leb-false above x p), cap_at y (leb-true above y q))
        (ap capped (swap x above) ∙ one_side y x (leb-true above y q) (none_or x) ∙ ap capped (swap y x))
    go false p false q = rw (cap_under x (leb-false above x p), cap_under y (leb-false above y q))

-- one number is 0
pub product_none : (x y : ℕ) → (x ≡ 0) ⊎ (y ≡ 0) → 0 ≡ capped (x * y)
product_none x y (inl q) = let e : x * y ≡ 0 = rw q (omega arith) in sym (ap capped e ∙ cap_none)
product_none x y (inr q) = let e : x * y ≡ 0 = rw q (omega arith) in sym (ap capped e ∙ cap_none)

-- one is cut off, and the other is not 0
pub product_over : (x : ℕ) → (x ≡ 0 → ⊥) → above ≡ capped (above * x)
product_over x h = sym (cap_at (above * x) (big above x (omega arith) (omega (arith, h))))

pub product_above : (x : ℕ) → (x ≡ 0 → ⊥) → above ≡ capped (x * above)
product_above x h = product_over x h ∙ ap capped (swap above x)

-- what a checked sum or product gives
pub checked : (r : Option ℕ) (v : ℕ) → SomeIff r (v < above) v → amount r ≡ capped v
checked None v h = sym (cap_at v (omega (arith, h)))
checked (Some w) v h = h.1 ∙ sym (cap_under v h.0)

-- ---- lists of them

pub read_exact : (low high : ℕ) → high ≡ 0 → low ≤ largest → low ≡ capped (value low high)
unfolding capped
read_exact low high q h = omega (arith, q, h)

pub read_over : (low high : ℕ) → high ≢ 0 → above ≡ capped (value low high)
unfolding capped
read_over low zero h = absurd (h refl)
read_over low (suc high) h = omega arith

cap_left : (a b : ℕ) → capped (capped a + b) ≡ capped (a + b)
unfolding capped
cap_left a b = omega arith

-- a sum is stored
pub add_stored : {A A' : List ℕ} {i y v : ℕ} (x : ℕ) → Stored A i v A' → v ≡ capped (y + x) → y ≡ capped (many_at A i) → Stored A i (capped (many_at A i + x)) A'
add_stored {A} {A'} {i} {y} {v} x s q r = record { here = s.here ∙ q ∙ ap (λ a. capped (a + x)) r ∙ cap_left (many_at A i) x; there = s.there; long = s.long }
