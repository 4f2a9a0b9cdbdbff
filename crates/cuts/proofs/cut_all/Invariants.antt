-- The invariant: the reached numbers below i have their cuts. Assumes nothing.
use Rattle.cuts.specs.Cutting.{Halfway}
use Rattle.cuts.proofs.cut_all.Given as goal

abbrev pub invariant-loop-i : goal.invariant-loop-i
invariant-loop-i l = Halfway l.nodes l.marks l.root l.cut l.heads l.next l.count l.memo l.own l.i
