-- `equations::showing::show` meets its contract. Assumes nothing.
use Rattle.equations.proofs.Shown.{NamesSoFar}
use Rattle.equations.proofs.showing.show.Given as goal

abbrev pub invariant-loop-i : goal.invariant-loop-i
invariant-loop-i l = NamesSoFar l.starts l.inputs l.order l.names l.events l.initial.shown l.from l.i l.shown l.u
