-- `sets::write_word` meets its contract. Assumes nothing.
use Prim.Native.Nat.{◌*◌}
use lib.ListN.{length}
use Rattle.sets.specs.Bytes.{in_word}
use Rattle.sets.proofs.Bytes.{Telling}
use Rattle.sets.proofs.write_word.Given as goal

abbrev pub invariant-loop-v : goal.invariant-loop-v
invariant-loop-v l = Telling l.w (l.k * 64) l.at l.initial.line l.line l.v l.end × Telling l.w (l.k * 64) l.at l.initial.left l.left l.v l.end

abbrev pub decreases-loop-v : goal.decreases-loop-v
decreases-loop-v l = length (in_word l.v (l.k * 64))
