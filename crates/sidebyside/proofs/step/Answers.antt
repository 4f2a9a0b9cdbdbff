-- `sidebyside::step` meets its contract. Assumes nothing.
use native.Mathlib.Omega.{arith}
use Rattle.sidebyside.proofs.Whole.{whole_rises}
use Rattle.sidebyside.proofs.Walking.{walk_rises}
use Rattle.sidebyside.proofs.Merging.{merge_on, merge_first, merge_second, merge_same}
use Rattle.sidebyside.proofs.step.Goals as goal

pub order-requires : goal.order-requires
order-requires c = (whole_rises (walk_rises c.requires.merging.mine c.requires.e_nonzero.0), whole_rises (walk_rises c.requires.merging.yours c.requires.e_nonzero.1))

pub overflow_add-result : goal.overflow_add-result
overflow_add-result c = let on = merge_on c.requires.merging c.requires.e_nonzero.0 c.requires.e_nonzero.1 in omega (arith, c.requires.merging.few, on)

pub overflow_add-result-in-Greater : goal.overflow_add-result-in-Greater
overflow_add-result-in-Greater c = let on = merge_on c.requires.merging c.requires.e_nonzero.0 c.requires.e_nonzero.1 in omega (arith, c.requires.merging.small, on)

pub overflow_add-result-in-Equal : goal.overflow_add-result-in-Equal
overflow_add-result-in-Equal c = let on = merge_on c.requires.merging c.requires.e_nonzero.0 c.requires.e_nonzero.1 in omega (arith, c.requires.merging.few, on)

pub returns-in-Less-clause-merging_2 : goal.returns-in-Less-clause-merging_2
returns-in-Less-clause-merging_2 c = merge_first c.requires.merging c.requires.e_nonzero.0 c.requires.e_nonzero.1 c.in-Less.ensures c.next.ensures

pub returns-in-Greater-clause-merging_2 : goal.returns-in-Greater-clause-merging_2
returns-in-Greater-clause-merging_2 c = merge_second c.requires.merging c.requires.e_nonzero.0 c.requires.e_nonzero.1 c.in-Greater.ensures c.next-in-Greater.ensures

pub returns-in-Equal-clause-merging_2 : goal.returns-in-Equal-clause-merging_2
returns-in-Equal-clause-merging_2 c = merge_same c.requires.merging c.requires.e_nonzero.0 c.requires.e_nonzero.1 c.in-Equal.ensures c.next-in-Equal.ensures c.next-in-Equal-2.ensures
