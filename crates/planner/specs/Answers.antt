-- What the two calls answer: a judgement or a refusal, and the words of a cut; the words of a proposed set. A refusal has the empty set.
-- Assumes nothing.
use Rattle.std.specs.Prelude.{List, ℕ, replicate, Result, Ok, Err}
use Rattle.paper.specs.declared.refusal.Refusal.{Refusal}
use Rattle.sets.specs.Words.{words}
use Rattle.planner.specs.declared.Judgement.{Judgement}
use Rattle.planner.specs.declared.Checked.{Checked}

abbrev pub judgement_of : Result Checked Refusal → Result Judgement Refusal
judgement_of (Ok c) = Ok c.judgement
judgement_of (Err why) = Err why

abbrev pub cut_of : Result Checked Refusal → List ℕ
cut_of (Ok c) = c.cut
cut_of (Err _) = replicate words 0

abbrev pub words_of : Result (List ℕ) Refusal → List ℕ
words_of (Ok set) = set
words_of (Err _) = replicate words 0
