-- The numbers of each call's answer, in order.
-- Assumes nothing.
use Rattle.std.specs.Prelude.{Bool, cond, Result, Ok, Err, List, [], ◌∷◌, ℕ}
use Rattle.paper.specs.Answers.{Verdict}
use Rattle.paper.specs.Refusals.{number_of}
use Rattle.paper.specs.declared.refusal.Refusal.{Refusal}
use Rattle.bracket.specs.Answers.{low_of, high_of}
use Rattle.rules.specs.Answers.{reason}
use Rattle.rules.specs.declared.Refusal.{Refusal as TreeRefusal}
use Rattle.writing.specs.Writes.{Wrote}
use Rattle.records.specs.declared.Tree.{Tree}
use Rattle.listing.specs.Results.{count_of, used_of, last_of, finished_of}
use Rattle.listing.specs.declared.Listed.{Listed}
use Rattle.report.specs.Results.{edition_of, listed_of}
use Rattle.report.specs.declared.Reported.{Reported}
use Rattle.bracket.specs.declared.Ends.{Ends}
use Rattle.memory.specs.Analysis.{Analysis}
use Rattle.equations.specs.Imported.{Imported}
use Rattle.folder.specs.Gathered.{Gathered}
use Rattle.decision.specs.Answers.{fails_of}

abbrev pub of_reading : Result Tree TreeRefusal → List ℕ
of_reading (Ok t) = 0 ∷ 0 ∷ t.event_count ∷ t.gate_count ∷ cond t.sited 1 0 ∷ []
of_reading (Err a) = (reason a).number ∷ (reason a).place ∷ 0 ∷ 0 ∷ 0 ∷ []

abbrev pub of_written : Result ℕ TreeRefusal → List ℕ
of_written (Ok n) = 0 ∷ 0 ∷ n ∷ []
of_written (Err a) = (reason a).number ∷ (reason a).place ∷ 0 ∷ []

abbrev pub of_writing : Wrote → List ℕ
of_writing w = of_written w.answer

abbrev pub of_analysis : Analysis → List ℕ
of_analysis a = a.number ∷ a.place ∷ a.nodes ∷ a.cut_nodes ∷ a.root ∷ a.cut_root ∷ []

abbrev pub of_verdict : Verdict → List ℕ
of_verdict v = v.number ∷ v.place ∷ []

-- five numbers, and the words of the last set behind them
abbrev pub of_listing : Result Listed Refusal → List ℕ
of_listing l = number_of l ∷ 0 ∷ count_of l ∷ used_of l ∷ cond (finished_of l) 1 0 ∷ last_of l

-- six, and the words of the last set behind them
abbrev pub of_report : Result Reported Refusal → List ℕ
of_report r = number_of r ∷ 0 ∷ edition_of r ∷ count_of (listed_of r) ∷ used_of (listed_of r) ∷ cond (finished_of (listed_of r)) 1 0 ∷ last_of (listed_of r)

abbrev pub of_bracket : Result Ends Refusal → List ℕ
of_bracket e = number_of e ∷ 0 ∷ low_of e ∷ high_of e ∷ []

abbrev pub of_import : Imported → List ℕ
of_import a = a.number ∷ a.place ∷ a.line ∷ a.ring ∷ a.tree.event_count ∷ a.tree.gate_count ∷ []

abbrev pub of_tally : Result (Unit {0}) Refusal → List ℕ
of_tally t = number_of t ∷ 0 ∷ []

abbrev pub of_gathered : Gathered → List ℕ
of_gathered g = g.number ∷ g.place ∷ g.tree ∷ []

abbrev pub of_decided : Result Bool Refusal → List ℕ
of_decided d = number_of d ∷ 0 ∷ cond (fails_of d) 1 0 ∷ []
