-- The numbers of the planner's answers, in order.
-- Assumes nothing.
use Rattle.std.specs.Prelude.{cond, List, [], ◌∷◌, ℕ, Option, Result}
use Rattle.paper.specs.Refusals.{number_of}
use Rattle.paper.specs.declared.refusal.Refusal.{Refusal}
use Rattle.remaining.specs.Answers.{found_of, cut_of}
use Rattle.planner.specs.Saying.{says}
use Rattle.planner.specs.Answers.{judgement_of, cut_of as cut_with, words_of}
use Rattle.planner.specs.declared.Checked.{Checked}

-- three numbers, and the words of the cut behind them
abbrev pub of_missed : Result (Option (List ℕ)) Refusal → List ℕ
of_missed m = number_of m ∷ 0 ∷ cond (found_of m) 1 0 ∷ cut_of m

abbrev pub of_held : Result (Unit {0}) Refusal → List ℕ
of_held t = number_of t ∷ 0 ∷ []

-- what each case of the judgement says, and the words of the cut behind that
abbrev pub of_checked : Result Checked Refusal → List ℕ
of_checked c = (says (judgement_of c)).number ∷ (says (judgement_of c)).place ∷ (says (judgement_of c)).said ∷ (says (judgement_of c)).member ∷ cut_with c

-- two numbers, and the words of the set behind them
abbrev pub of_proposal : Result (List ℕ) Refusal → List ℕ
of_proposal p = number_of p ∷ 0 ∷ words_of p
