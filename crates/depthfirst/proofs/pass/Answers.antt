-- `depthfirst::pass` meets its contract. Assumes nothing.
use native.Mathlib.Omega.{arith}
use Rattle.depthfirst.proofs.Small.{passing_next}
use Rattle.depthfirst.proofs.pass.Goals as goal

pub loop-q-preserved : goal.loop-q-preserved
loop-q-preserved c = passing_next c.requires c.loop-q-test.true c.loop-q.invariant (omega (arith, c.if-mark-y-lt2.false))
