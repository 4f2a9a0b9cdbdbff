-- What the search for a cut answers: whether a cut was found, and the first such; the empty set where none was, or in a refusal.
-- Assumes nothing.
use Rattle.std.specs.Prelude.{Bool, true, false, List, ℕ, replicate, Option, None, Some, Result, Ok, Err}
use Rattle.paper.specs.declared.refusal.Refusal.{Refusal}
use Rattle.sets.specs.Words.{words}

abbrev pub found_in : Option (List ℕ) → Bool
found_in None = false
found_in (Some _) = true

abbrev pub cut_in : Option (List ℕ) → List ℕ
cut_in None = replicate words 0
cut_in (Some cut) = cut

abbrev pub found_of : Result (Option (List ℕ)) Refusal → Bool
found_of (Ok m) = found_in m
found_of (Err _) = false

abbrev pub cut_of : Result (Option (List ℕ)) Refusal → List ℕ
cut_of (Ok m) = cut_in m
cut_of (Err _) = replicate words 0
