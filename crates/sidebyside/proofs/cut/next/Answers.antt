-- `sidebyside::cut::next` meets its contract. Assumes nothing.
use native.Mathlib.Omega.{arith}
use Rattle.sidebyside.proofs.Whole.{whole_rises}
use Rattle.sidebyside.proofs.TwoCuts.{follow_none, follow_some}
use Rattle.sidebyside.proofs.cut.next.Goals as goal

pub common-f-requires : goal.common-f-requires
common-f-requires c = (whole_rises c.requires, c.requires.inside)

pub returns-then-f-eq-EVENTS : goal.returns-then-f-eq-EVENTS
returns-then-f-eq-EVENTS c = follow_none c.common-f.ensures c.if-f-eq-EVENTS.true

pub overflow_add-at : goal.overflow_add-at
overflow_add-at c = omega (arith, c.common-f.ensures.within)

pub overflow_add-f : goal.overflow_add-f
overflow_add-f c = omega (arith, c.common-f.ensures.mine.most)

pub cut_end-requires : goal.cut_end-requires
cut_end-requires c = (c.common-f.ensures.within, c.common-f.ensures.yours)

pub returns : goal.returns
returns c = follow_some c.common-f.ensures c.if-f-eq-EVENTS.false c.cut_end.ensures
