-- The ends that a call answers: both 0 in a refusal.
-- Assumes nothing.
use Rattle.std.specs.Prelude.{ℕ, Result, Ok, Err}
use Rattle.paper.specs.declared.refusal.Refusal.{Refusal}
use Rattle.bracket.specs.declared.Ends.{Ends}

abbrev pub low_of : Result Ends Refusal → ℕ
low_of (Ok e) = e.low
low_of (Err _) = 0

abbrev pub high_of : Result Ends Refusal → ℕ
high_of (Ok e) = e.high
high_of (Err _) = 0
