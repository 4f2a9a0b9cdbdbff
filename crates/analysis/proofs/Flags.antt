-- A test that was denied, and what a flag then says.
-- Assumes nothing.
use mathlib.Core.Path.{◌≡◌}
use mathlib.Core.Bool.{Bool, true, false, not, true≢false, false≢true}
use Rattle.tables.specs.Flags.{Says}

-- the arm of `if !flag` that was taken: the statement does not hold
pub denied : (b : Bool) {P : Type 0} → Says b P → not b ≡ true → P → ⊥
denied true h e = absurd (false≢true e)
denied false h e = h

-- and the arm that was left: it holds
pub granted : (b : Bool) {P : Type 0} → Says b P → not b ≡ false → P
granted true h e = h
granted false h e = absurd (true≢false e)
