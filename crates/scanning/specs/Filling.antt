-- THE INPUTS as flat arrays: the right names of each name's equation as numbers, one name after the other. g gives the inputs of each name.
-- Assumes nothing.
use Rattle.std.specs.Prelude.{◌≡◌, List, [], ◌++◌, ℕ, zero, suc, ◌<◌, ◌≤◌, get_or, length, take}

-- the inputs of the first x names
abbrev pub up_to : (ℕ → List ℕ) → ℕ → List ℕ
up_to g zero = []
up_to g (suc x) = up_to g x ++ g x

-- the numbers l were put behind the first `used` of I
pub record Put (l I : List ℕ) (used : ℕ) (I' : List ℕ) (u : ℕ) : Type 0 where
  pub inside : u ≤ length I'
  pub is : take u I' ≡ take used I ++ l

-- WHAT FILLING ANSWERS: every name's inputs stand in I, from S's number on
pub record Flat (g : ℕ → List ℕ) (c : ℕ) (S I : List ℕ) (used : ℕ) : Type 0 where
  pub long : c < length S
  pub inside : used ≤ length I
  pub starts : (x : ℕ) → x ≤ c → get_or S x 0 ≡ length (up_to g x)
  pub is : take used I ≡ up_to g c
