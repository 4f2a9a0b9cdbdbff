-- The bits of a number: trailing zeros, a single bit, `|`, `^` and `&`, and the number without its lowest set bit, or without its low bits.
-- Assumes nothing.
use mathlib.Core.Path.{◌≡◌, refl, sym, ap, ap₂, ◌∙◌, subst}
use Prim.Native.Nat.{ℕ, zero, suc, ◌+◌, ◌-◌, ◌*◌, ◌/◌, ◌%◌, ◌^◌, ◌≤◌, ◌<◌, suc-le-suc, max, min}
use native.Mathlib.Nat.{not-suc-le-zero, le_of_suc-le-suc, zero-lt-suc, mod-lt, mul_assoc, pow-suc, zero-div}
use native.Mathlib.Decide.{dec_lt}
use native.Mathlib.Numerals.{add-one, one-add}
use native.Mathlib.Omega.{arith}
use lib.Arith.{digits_mod}
use lib.Pow.{shr-shr, shr_lt, shl-shr, shl_exact}
use lib.Bits.{bit_xor, bit_or, bit_and, differ, xor_shr, xor_step, or_shr, or_step, and_shr, and_step}
use lib.Count.{count_trailing_zeros, under}
use Rattle.sets.specs.Words.{bit, Trail}

-- bit j + 1 of w is bit j of w / 2
pub bit_suc : (w j : ℕ) → bit w (suc j) ≡ bit (w / 2) j
unfolding bit
bit_suc w j = ap (λ (n : ℕ). w / 2 ^ n % 2) (sym (one-add j)) ∙ ap (λ (n : ℕ). n % 2) (sym (shr-shr w 1 j))

pub bit_zero : (w : ℕ) → bit w 0 ≡ w % 2
unfolding bit
bit_zero w = omega arith

pub bit_shift : (w j k : ℕ) → bit (w / 2 ^ j) k ≡ bit w (j + k)
unfolding bit
bit_shift w j k = ap (λ (n : ℕ). n % 2) (shr-shr w j k)

pub bit_none : (j : ℕ) → bit 0 j ≡ 0
unfolding bit
bit_none j = ap (λ (n : ℕ). n % 2) (zero-div (2 ^ j))

half_lt : {n : ℕ} (k : ℕ) → n < 2 ^ suc k → n / 2 < 2 ^ k
half_lt {n} k h = shr_lt k 1 (subst (λ (x : ℕ). n < 2 ^ x) (sym (add-one k)) h)

trail_even : (k w t : ℕ) → w % 2 ≡ 0 → Trail (w / 2) k t → Trail w (suc k) (suc t)
trail_even k w t e r = record { below = suc-le-suc r.below; set = bit_suc w t ∙ r.set; clear = go }
  where
    go : (j : ℕ) → j < suc t → bit w j ≡ 0
    go zero h = bit_zero w ∙ e
    go (suc j) h = bit_suc w j ∙ r.clear j (le_of_suc-le-suc h)

trail_odd : (k w : ℕ) → w % 2 ≡ 1 → Trail w (suc k) 0
trail_odd k w e = record { below = zero-lt-suc k; set = bit_zero w ∙ e; clear = λ j h. absurd (not-suc-le-zero h) }

pub trail : (k w : ℕ) → 0 < w → w < 2 ^ k → Trail w k (count_trailing_zeros k w)
unfolding count_trailing_zeros
trail zero w p h = absurd (omega arith)
trail (suc k) w p h = go (w % 2) refl (λ q. trail k (w / 2) q (half_lt k h))
  where
    go : (r : ℕ) → w % 2 ≡ r → (0 < w / 2 → Trail (w / 2) k (count_trailing_zeros k (w / 2))) → Trail w (suc k) (under r (count_trailing_zeros k (w / 2)))
    go zero e ih = trail_even k w (count_trailing_zeros k (w / 2)) e (ih (omega arith))
    go (suc r) e ih = trail_odd k w (omega arith)

half_pow : (b : ℕ) → 2 ^ suc b / 2 ≡ 2 ^ b
half_pow b = omega (arith, pow-suc 2 b)

-- the number 2 ^ b has bit b and no other
pub bit_own : (b : ℕ) → bit (2 ^ b) b ≡ 1
bit_own zero = bit_zero 1
bit_own (suc b) = bit_suc (2 ^ suc b) b ∙ ap (λ (n : ℕ). bit n b) (half_pow b) ∙ bit_own b

pub bit_other : (b j : ℕ) → (j ≡ b → ⊥) → bit (2 ^ b) j ≡ 0
bit_other zero zero h = absurd (h refl)
bit_other zero (suc j) h = bit_suc 1 j ∙ bit_none j
bit_other (suc b) zero h = bit_zero (2 ^ suc b) ∙ omega (arith, pow-suc 2 b)
bit_other (suc b) (suc j) h = bit_suc (2 ^ suc b) j ∙ ap (λ (n : ℕ). bit n j) (half_pow b) ∙ bit_other b j (λ e. h (ap suc e))

-- bits of `^`, `|` and `&`
differ_lt : (x y : ℕ) → x < 2 → y < 2 → differ x y < 2
differ_lt zero y h k = k
differ_lt (suc x) zero h k = h
differ_lt (suc zero) (suc y) h k = omega arith
differ_lt (suc (suc x)) (suc y) h k = absurd (omega arith)

xor_low : (a b : ℕ) → bit_xor a b % 2 ≡ differ (a % 2) (b % 2)
xor_low a b =
    ap (λ (n : ℕ). n % 2) (xor_step a b)
    ∙ digits_mod (bit_xor (a / 2) (b / 2)) (differ_lt (a % 2) (b % 2) (mod-lt a (zero-lt-suc 1)) (mod-lt b (zero-lt-suc 1)))

or_low : (a b : ℕ) → bit_or a b % 2 ≡ max (a % 2) (b % 2)
or_low a b = omega (arith, or_step a b)

pub bit_xor_lem : (a b j : ℕ) → bit (bit_xor a b) j ≡ differ (bit a j) (bit b j)
unfolding bit
bit_xor_lem a b j = ap (λ (n : ℕ). n % 2) (xor_shr a b j) ∙ xor_low (a / 2 ^ j) (b / 2 ^ j)

pub bit_or_lem : (a b j : ℕ) → bit (bit_or a b) j ≡ max (bit a j) (bit b j)
unfolding bit
bit_or_lem a b j = ap (λ (n : ℕ). n % 2) (or_shr a b j) ∙ or_low (a / 2 ^ j) (b / 2 ^ j)

and_low : (a b : ℕ) → bit_and a b % 2 ≡ min (a % 2) (b % 2)
and_low a b = omega (arith, and_step a b)

pub bit_and_lem : (a b j : ℕ) → bit (bit_and a b) j ≡ min (bit a j) (bit b j)
unfolding bit
bit_and_lem a b j = ap (λ (n : ℕ). n % 2) (and_shr a b j) ∙ and_low (a / 2 ^ j) (b / 2 ^ j)

pub bit_lt : (w j : ℕ) → bit w j < 2
unfolding bit
bit_lt w j = omega arith

-- ---- a number less 1 lacks the lowest set bit, and agrees above it

less_own : (t w : ℕ) → bit w t ≡ 1 → ((j : ℕ) → j < t → bit w j ≡ 0) → bit (w - 1) t ≡ 0
less_own zero w e c = let o : w % 2 ≡ 1 = sym (bit_zero w) ∙ e in bit_zero (w - 1) ∙ omega arith
less_own (suc t) w e c =
    let even : w % 2 ≡ 0 = sym (bit_zero w) ∙ c 0 (zero-lt-suc t) in
    let half : (w - 1) / 2 ≡ w / 2 - 1 = omega arith in
    bit_suc (w - 1) t ∙ ap (λ (n : ℕ). bit n t) half ∙ less_own t (w / 2) (sym (bit_suc w t) ∙ e) (λ j h. sym (bit_suc w j) ∙ c (suc j) (suc-le-suc h))

less_above : (t w j : ℕ) → bit w t ≡ 1 → ((i : ℕ) → i < t → bit w i ≡ 0) → t < j → bit (w - 1) j ≡ bit w j
less_above t w zero e c h = absurd (omega arith)
less_above zero w (suc j) e c h =
    let o : w % 2 ≡ 1 = sym (bit_zero w) ∙ e in
    let half : (w - 1) / 2 ≡ w / 2 = omega arith in
    bit_suc (w - 1) j ∙ ap (λ (n : ℕ). bit n j) half ∙ sym (bit_suc w j)
less_above (suc t) w (suc j) e c h =
    let even : w % 2 ≡ 0 = sym (bit_zero w) ∙ c 0 (zero-lt-suc t) in
    let half : (w - 1) / 2 ≡ w / 2 - 1 = omega arith in
    bit_suc (w - 1) j ∙ ap (λ (n : ℕ). bit n j) half ∙ less_above t (w / 2) j (sym (bit_suc w t) ∙ e) (λ i g. sym (bit_suc w i) ∙ c (suc i) (suc-le-suc g)) (le_of_suc-le-suc h) ∙ sym (bit_suc w j)

-- so `&` with it takes that bit out, and leaves the others
pub drop_own : {w k t : ℕ} → Trail w k t → bit (bit_and w (w - 1)) t ≡ 0
drop_own {w} {t = t} r = bit_and_lem w (w - 1) t ∙ go (bit w t) (bit (w - 1) t) (less_own t w r.set r.clear)
  where
    go : (x y : ℕ) → y ≡ 0 → min x y ≡ 0
    go x y e = omega arith

pub drop_other : {w k t : ℕ} → Trail w k t → (j : ℕ) → (j ≡ t → ⊥) → bit (bit_and w (w - 1)) j ≡ bit w j
drop_other {w} {t = t} r j n = bit_and_lem w (w - 1) j ∙ go (dec_lt j t)
  where
    low : (x y : ℕ) → x ≡ 0 → min x y ≡ x
    low x y e = omega arith

    same : (x y : ℕ) → y ≡ x → min x y ≡ x
    same x y e = omega arith

    go : Dec (j < t) → min (bit w j) (bit (w - 1) j) ≡ bit w j
    go (yes h) = low (bit w j) (bit (w - 1) j) (r.clear j h)
    go (no h) = same (bit w j) (bit (w - 1) j) (less_above t w j r.set r.clear (omega arith))

-- ---- a word without its bits below place s, as the code shifts it down and up again

abbrev pub from_bit : ℕ → ℕ → ℕ
from_bit w s = (w / 2 ^ s * 2 ^ s) % 2 ^ 64

up_low : (v s j : ℕ) → j < s → bit (v * 2 ^ s) j ≡ 0
up_low v zero j h = absurd (omega arith)
up_low v (suc s) j h = go j h (λ i l. up_low v s i l)
  where
    twice : v * 2 ^ suc s ≡ v * 2 ^ s * 2
    twice = ap (λ (n : ℕ). v * n) (pow-suc 2 s) ∙ sym (mul_assoc v (2 ^ s) 2)

    go : (j : ℕ) → j < suc s → ((i : ℕ) → i < s → bit (v * 2 ^ s) i ≡ 0) → bit (v * 2 ^ suc s) j ≡ 0
    go zero l ih = bit_zero (v * 2 ^ suc s) ∙ omega (arith, twice)
    go (suc j) l ih = let half : v * 2 ^ suc s / 2 ≡ v * 2 ^ s = omega (arith, twice) in bit_suc (v * 2 ^ suc s) j ∙ ap (λ (n : ℕ). bit n j) half ∙ ih j (omega arith)

module _ (w s : ℕ) (f : w < 2 ^ 64) (h : s < 64) where
  whole : from_bit w s ≡ w / 2 ^ s * 2 ^ s
  whole = let e : 64 - s + s ≡ 64 = omega arith in shl_exact (64 - s) s 64 (shr_lt (64 - s) s (subst (λ (n : ℕ). w < 2 ^ n) (sym e) f)) (omega arith)

  pub clear_below : (j : ℕ) → j < s → bit (from_bit w s) j ≡ 0
  clear_below j l = ap (λ (n : ℕ). bit n j) whole ∙ up_low (w / 2 ^ s) s j l

  pub clear_kept : (j : ℕ) → s ≤ j → bit (from_bit w s) j ≡ bit w j
  clear_kept j l =
      let at : s + (j - s) ≡ j = omega arith in
      ap₂ bit whole (sym at) ∙ sym (bit_shift (w / 2 ^ s * 2 ^ s) s (j - s)) ∙ ap (λ (n : ℕ). bit n (j - s)) (shl-shr (w / 2 ^ s) s) ∙ bit_shift w s (j - s) ∙ ap (bit w) at
