-- `depthfirst::mark_stretch` meets its contract. Assumes nothing.
use lib.ListN.{length-set}
use Rattle.depthfirst.proofs.Rooting.{stretching_next}
use Rattle.depthfirst.proofs.mark_stretch.Goals as goal

pub loop-q-preserved : goal.loop-q-preserved
loop-q-preserved c = (simp length-set c.loop-q.invariant.0, stretching_next c.requires c.loop-q-test.true c.loop-q.invariant.0 c.loop-q.invariant.1)
