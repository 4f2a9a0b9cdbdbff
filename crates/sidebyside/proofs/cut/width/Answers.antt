-- `sidebyside::cut::width` meets its contract. Assumes nothing.
use mathlib.Core.Path.{sym}
use Rattle.sidebyside.proofs.Coding.{narrow_two, wide_three}
use Rattle.sidebyside.proofs.cut.width.Goals as goal

pub returns-then-e-ge-FIRST_WIDE : goal.returns-then-e-ge-FIRST_WIDE
returns-then-e-ge-FIRST_WIDE c = sym (wide_three c.args.e c.if-e-ge-FIRST_WIDE.true)

pub returns : goal.returns
returns c = sym (narrow_two c.args.e c.if-e-ge-FIRST_WIDE.false)
