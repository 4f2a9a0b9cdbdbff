-- What a report call answers, by its parts: a refusal names no edition.
-- Assumes nothing.
use Rattle.std.specs.Prelude.{ℕ, Result, Ok, Err}
use Rattle.paper.specs.declared.refusal.Refusal.{Refusal}
use Rattle.listing.specs.declared.Listed.{Listed}
use Rattle.report.specs.declared.Reported.{Reported}

abbrev pub edition_of : Result Reported Refusal → ℕ
edition_of (Ok r) = r.edition
edition_of (Err _) = 0

-- the answer without its edition
abbrev pub listed_of : Result Reported Refusal → Result Listed Refusal
listed_of (Ok r) = Ok r.listed
listed_of (Err why) = Err why
