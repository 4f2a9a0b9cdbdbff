-- From the side that a comparison of two listings answers to the numbers in the answer's array.
-- Assumes nothing.
use mathlib.Core.Path.{◌≡◌, refl, sym, ap, ◌∙◌}
use mathlib.Core.List.{List, [], ◌∷◌}
use Prim.Native.Nat.{ℕ}
use Rattle.sidebyside.specs.Sided.{side_answer}
use Rattle.sidebyside.specs.Finding.{Finds}
use Rattle.std.specs.Prelude.{Option, Result}
use Rattle.sidebyside.specs.declared.Side.{Side}
use Rattle.sidebyside.specs.declared.Difference.{Difference}
use Rattle.exported.specs.TwoListings.{of_side, of_difference}

-- the numbers of a side
pub sided : (w : Result (Option Side) Side) {n p s : ℕ} → n ≡ (side_answer w).number → p ≡ (side_answer w).place → s ≡ (side_answer w).side → n ∷ p ∷ s ∷ [] ≡ of_side w
sided w a b c = rw (a, b, c) refl
