-- `bracket::number_in` meets its contract. Assumes nothing.
use mathlib.Core.Path.{sym, ◌∙◌}
use native.Mathlib.Omega.{arith}
use borrow.Author.Rules.{rules}
use Rattle.bracket.specs.Pass.{number_in}
use Rattle.bracket.proofs.Pass.{number_slot}
use Rattle.bracket.proofs.number_in.Goals as goal

pub returns-in-0 : goal.returns-in-0
unfolding number_in
returns-in-0 c = search rules

pub returns-in-1 : goal.returns-in-1
unfolding number_in
returns-in-1 c = search rules

pub returns-in_default : goal.returns-in_default
returns-in_default c = c.from.ensures ∙ sym (number_slot c.args.work.now c.args.i (omega arith))
