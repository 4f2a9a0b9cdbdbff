-- `twins::distinct` meets its contract. Assumes nothing.
use Rattle.twins.proofs.Sifting.{Sifting}
use Rattle.twins.proofs.distinct.Given as goal

abbrev pub invariant-loop-i : goal.invariant-loop-i
invariant-loop-i l = Sifting l.inputs l.out l.i l.n
