-- `planting::put_inputs` meets its contract. Assumes nothing.
use Rattle.planting.proofs.Putting.{Putting}
use Rattle.planting.proofs.put_inputs.Given as goal

abbrev pub invariant-loop-p : goal.invariant-loop-p
invariant-loop-p l = Putting l.starts l.inputs l.numbers l.x l.used l.p l.u l.initial.out l.out
