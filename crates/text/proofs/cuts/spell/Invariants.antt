-- `text::cuts::spell` meets its contract. Assumes nothing.
use Rattle.text.proofs.Spelling.{Spelt}
use Rattle.text.proofs.cuts.spell.Given as goal

abbrev pub invariant-loop-b : goal.invariant-loop-b
invariant-loop-b l = Spelt l.b-items l.initial.text l.text l.place l.at l.b-index
