-- The front of a list after stores to its first places.
-- Assumes nothing.
use mathlib.Core.Path.{◌≡◌, refl}
use mathlib.Core.List.{List, [], ◌∷◌}
use Prim.Native.Nat.{ℕ, ◌≤◌, ◌<◌, ◌/◌, ◌%◌}
use borrow.Rule.Slice.PartMut.{put_mid}
use mir.Syntax.{w16, w32}
use Rattle.std.specs.Int.{to_le_bytes}
use native.Mathlib.Omega.{arith}
use lib.ListN.{length, set, drop}

pub store_1 : (l : List ℕ) (a : ℕ) → 1 ≤ length l → set l 0 a ≡ a ∷ drop 1 l
store_1 [] a h = absurd (omega arith)
store_1 (x ∷ l) a h = refl

pub store_2 : (l : List ℕ) (a b : ℕ) → 2 ≤ length l → set (set l 0 a) 1 b ≡ a ∷ b ∷ drop 2 l
store_2 [] a b h = absurd (omega arith)
store_2 (x ∷ []) a b h = absurd (omega arith)
store_2 (x ∷ y ∷ l) a b h = refl

pub store_3 : (l : List ℕ) (a b c : ℕ) → 3 ≤ length l → set (set (set l 0 a) 1 b) 2 c ≡ a ∷ b ∷ c ∷ drop 3 l
store_3 [] a b c h = absurd (omega arith)
store_3 (x ∷ []) a b c h = absurd (omega arith)
store_3 (x ∷ y ∷ []) a b c h = absurd (omega arith)
store_3 (x ∷ y ∷ z ∷ l) a b c h = refl

-- two bytes of a number behind the first five
pub two_behind_5 : (l m : List ℕ) (a b c d e n : ℕ) {ys : List ℕ} → 7 ≤ length l → n < 65536 → m ≡ a ∷ b ∷ c ∷ d ∷ e ∷ drop 5 l → ys ≡ to_le_bytes w16 n
    → put_mid 5 2 m ys ≡ a ∷ b ∷ c ∷ d ∷ e ∷ n % 256 ∷ n / 256 ∷ drop 7 l
two_behind_5 [] m a b c d e n h r q p = absurd (omega arith)
two_behind_5 (x1 ∷ []) m a b c d e n h r q p = absurd (omega arith)
two_behind_5 (x1 ∷ x2 ∷ []) m a b c d e n h r q p = absurd (omega arith)
two_behind_5 (x1 ∷ x2 ∷ x3 ∷ []) m a b c d e n h r q p = absurd (omega arith)
two_behind_5 (x1 ∷ x2 ∷ x3 ∷ x4 ∷ []) m a b c d e n h r q p = absurd (omega arith)
two_behind_5 (x1 ∷ x2 ∷ x3 ∷ x4 ∷ x5 ∷ []) m a b c d e n h r q p = absurd (omega arith)
two_behind_5 (x1 ∷ x2 ∷ x3 ∷ x4 ∷ x5 ∷ x6 ∷ []) m a b c d e n h r q p = absurd (omega arith)
two_behind_5 (x1 ∷ x2 ∷ x3 ∷ x4 ∷ x5 ∷ x6 ∷ x7 ∷ l) m a b c d e n h r q p = let top : n / 256 % 256 ≡ n / 256 = omega arith in rw (q, p, top) refl

-- two bytes of a number behind the first
pub two_behind : (l : List ℕ) (k n : ℕ) {ys : List ℕ} → 3 ≤ length l → n < 65536 → ys ≡ to_le_bytes w16 n → put_mid 1 2 (set l 0 k) ys ≡ k ∷ n % 256 ∷ n / 256 ∷ drop 3 l
two_behind [] k n h r e = absurd (omega arith)
two_behind (x ∷ []) k n h r e = absurd (omega arith)
two_behind (x ∷ y ∷ []) k n h r e = absurd (omega arith)
two_behind (x ∷ y ∷ z ∷ l) k n h r e = let top : n / 256 % 256 ≡ n / 256 = omega arith in rw (e, top) refl

-- four
pub four_behind : (l : List ℕ) (k n : ℕ) {ys : List ℕ} → 5 ≤ length l → n < 4294967296 → ys ≡ to_le_bytes w32 n
    → put_mid 1 4 (set l 0 k) ys ≡ k ∷ n % 256 ∷ n / 256 % 256 ∷ n / 65536 % 256 ∷ n / 16777216 ∷ drop 5 l
four_behind [] k n h r e = absurd (omega arith)
four_behind (x ∷ []) k n h r e = absurd (omega arith)
four_behind (x ∷ y ∷ []) k n h r e = absurd (omega arith)
four_behind (x ∷ y ∷ z ∷ []) k n h r e = absurd (omega arith)
four_behind (x ∷ y ∷ z ∷ u ∷ []) k n h r e = absurd (omega arith)
four_behind (x ∷ y ∷ z ∷ u ∷ v ∷ l) k n h r e = let top : n / 16777216 % 256 ≡ n / 16777216 = omega arith in rw (e, top) refl
