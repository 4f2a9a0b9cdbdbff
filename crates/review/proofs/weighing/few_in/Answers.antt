-- `review::weighing::few_in` meets its contract. Assumes nothing.
use mathlib.Core.Path.{sym, ◌∙◌}
use native.Mathlib.Omega.{arith}
use Rattle.review.proofs.Weights.{few_0, few_1, few_slot}
use Rattle.review.proofs.weighing.few_in.Goals as goal

pub returns-then-i-eq0 : goal.returns-then-i-eq0
returns-then-i-eq0 c = few_0 c.args.few.now c.args.i c.if-i-eq0.true

pub returns-then-i-eq1 : goal.returns-then-i-eq1
returns-then-i-eq1 c = few_1 c.args.few.now c.args.i c.if-i-eq1.true

pub offset_bounds-few-i : goal.offset_bounds-few-i
offset_bounds-few-i c = let h = c.requires (omega arith) in omega arith

pub bounds-few-i : goal.bounds-few-i
bounds-few-i c = let h = c.requires (omega arith) in omega arith

pub returns : goal.returns
returns c = c.wide.ensures ∙ sym (few_slot c.args.few.now c.args.i (omega arith))
