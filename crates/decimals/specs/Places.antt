-- Text put into a lent array.
-- Assumes nothing.
use Rattle.std.specs.Prelude.{◌≡◌, List, ◌++◌, ℕ, ◌+◌, ◌≤◌, length, take, drop}

-- s stands behind the first `at` bytes of a text, up to the place `end`; the rest is as it was
pub record Put (text : List ℕ) (at : ℕ) (s text' : List ℕ) (end : ℕ) : Type 0 where
  pub inside : end ≤ length text
  pub to : end ≡ at + length s
  pub is : text' ≡ take at text ++ s ++ drop end text

-- s is what stands in a text from a place on
pub record Ends (at : ℕ) (text s : List ℕ) : Type 0 where
  pub inside : at ≤ length text
  pub is : drop at text ≡ s
