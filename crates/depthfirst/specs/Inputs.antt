-- Typed equations as flat arrays: names 0 to n - 1, each with its inputs, left to right. S says where each name's inputs begin in I.
-- Assumes nothing.
use Rattle.std.specs.Prelude.{List, ℕ, ◌+◌, ◌<◌, ◌≤◌, get_or, length}
use Rattle.std.proofs.Math.Seq.{slice}

-- THE EQUATIONS: the inputs of name x
unfoldable pub inputs_of : List ℕ → List ℕ → ℕ → List ℕ
inputs_of S I x = slice (get_or S x 0) (get_or S (x + 1) 0) I

-- n names have their inputs within I, and each input is one of the names
pub record Arrays (S I : List ℕ) (n : ℕ) : Type 0 where
  pub long : n < length S
  pub inside : (x : ℕ) → x < n → get_or S (x + 1) 0 ≤ length I
  pub named : (p : ℕ) → p < length I → get_or I p 0 < n
