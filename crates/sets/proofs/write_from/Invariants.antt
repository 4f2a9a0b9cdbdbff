-- `sets::write_from` meets its contract. Assumes nothing.
use Prim.Native.Nat.{◌*◌}
use Rattle.sets.proofs.Bytes.{Spelling}
use Rattle.sets.proofs.write_from.Given as goal

abbrev pub invariant-loop-k : goal.invariant-loop-k
invariant-loop-k l = Spelling l.ws l.initial.line l.line (l.k * 64) l.end × Spelling l.ws l.initial.left l.left (l.k * 64) l.end
