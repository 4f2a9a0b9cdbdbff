-- `sets::copy` meets its contract. Assumes nothing.
use native.Mathlib.Omega.{arith}
use Rattle.sets.proofs.Line.{copy_more}
use Rattle.sets.proofs.copy.Goals as goal

pub loop-k-preserved : goal.loop-k-preserved
loop-k-preserved c = copy_more c.args.line.now c.args.left.now (omega arith) (omega arith) c.loop-k.invariant
