-- `sidebyside::cut::first_end` meets its contract. Assumes nothing.
use native.Mathlib.Omega.{arith}
use Rattle.sidebyside.proofs.cut.first_end.Goals as goal

pub rank-first-requires : goal.rank-first-requires
rank-first-requires c = omega arith

pub cut_end-requires : goal.cut_end-requires
cut_end-requires c = (omega arith, c.rank-first.ensures)

pub returns : goal.returns
returns c = c.cut_end.ensures
