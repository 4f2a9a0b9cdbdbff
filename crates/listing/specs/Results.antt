-- What a listing call answers, by its parts: in a refusal no cut, no byte, the empty set, and not finished.
-- Assumes nothing.
use Rattle.std.specs.Prelude.{Bool, false, List, ℕ, replicate, Result, Ok, Err}
use Rattle.paper.specs.declared.refusal.Refusal.{Refusal}
use Rattle.sets.specs.Words.{words}
use Rattle.listing.specs.declared.Listed.{Listed}

abbrev pub count_of : Result Listed Refusal → ℕ
count_of (Ok l) = l.count
count_of (Err _) = 0

abbrev pub used_of : Result Listed Refusal → ℕ
used_of (Ok l) = l.used
used_of (Err _) = 0

abbrev pub last_of : Result Listed Refusal → List ℕ
last_of (Ok l) = l.last
last_of (Err _) = replicate words 0

abbrev pub finished_of : Result Listed Refusal → Bool
finished_of (Ok l) = l.finished
finished_of (Err _) = false
