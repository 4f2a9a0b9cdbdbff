-- `exporting::pieces::lay_tail` meets its contract. Assumes nothing.
use Rattle.exporting.proofs.Rows.{Rowed}
use Rattle.exporting.proofs.pieces.lay_tail.Given as goal

abbrev pub invariant-loop-i : goal.invariant-loop-i
invariant-loop-i l = Rowed l.initial.room l.at l.sep l.inputs l.first l.n l.room l.end l.i
