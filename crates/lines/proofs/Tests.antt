-- Tests: what a test of a test's answer tells, and the bytes.
-- Assumes nothing.
use mathlib.Core.Path.{◌≡◌, refl}
use mathlib.Core.Bool.{Bool, true, false, not, cond, ◌&&◌, ◌||◌, false≢true}
use Prim.Native.Nat.{ℕ}
use lib.Dec.{eqb}
use Rattle.std.specs.Int.{is_in_range}
use Rattle.std.specs.Char.{is_ascii_alphabetic, is_ascii_digit, is_ascii_alphanumeric}
use Rattle.paper.specs.Bytes.{letter, digit, letter_or_digit, in_line}

-- both of a pair of tests
pub and_first : (t u : Bool) → (t && u) ≡ true → t ≡ true
and_first true u h = refl
and_first false u h = h

pub and_second : (t u : Bool) → (t && u) ≡ true → u ≡ true
and_second true u h = h
and_second false u h = absurd (false≢true h)

-- the library's tests of bytes
module _ (b : ℕ) where
  pub letter_is : letter b ≡ is_ascii_alphabetic b
  unfolding letter
  letter_is = refl

  pub digit_is : digit b ≡ is_ascii_digit b
  unfolding digit
  digit_is = refl

  pub letter_or_digit_is : letter_or_digit b ≡ is_ascii_alphanumeric b
  unfolding letter_or_digit letter digit
  letter_or_digit_is = go (is_in_range 65 90 b) (is_in_range 97 122 b) (is_in_range 48 57 b)
    where
      go : (u l d : Bool) → ((u || l) || d) ≡ ((d || u) || l)
      go true l true = refl
      go true l false = refl
      go false true true = refl
      go false true false = refl
      go false false true = refl
      go false false false = refl

  pub in_line_is : in_line b ≡ not (eqb b 10)
  unfolding in_line
  in_line_is = go (eqb b 10)
    where
      go : (t : Bool) → cond t false true ≡ not t
      go true = refl
      go false = refl
