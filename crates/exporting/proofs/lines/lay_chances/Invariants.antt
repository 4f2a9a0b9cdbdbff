-- `exporting::lines::lay_chances` meets its contract. Assumes nothing.
use Rattle.exporting.proofs.Chances.{Chanced}
use Rattle.exporting.proofs.lines.lay_chances.Given as goal

abbrev pub invariant-loop-i : goal.invariant-loop-i
invariant-loop-i l = Chanced l.initial.room l.at l.tree l.room l.end l.i
