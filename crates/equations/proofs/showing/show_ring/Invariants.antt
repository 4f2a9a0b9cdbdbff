-- `equations::showing::show_ring` meets its contract. Assumes nothing.
use Rattle.equations.proofs.Rings.{RingSoFar}
use Rattle.equations.proofs.showing.show_ring.Given as goal

abbrev pub invariant-loop-i : goal.invariant-loop-i
invariant-loop-i l = RingSoFar l.stack l.from l.to l.defs l.initial.ring l.i l.ring
