-- `depthfirst::mark_inputs` meets its contract. Assumes nothing.
use mathlib.Core.Path.{◌∙◌}
use Rattle.depthfirst.proofs.Rooting.{inputs_next}
use Rattle.depthfirst.proofs.mark_inputs.Goals as goal

pub loop-x-preserved : goal.loop-x-preserved
loop-x-preserved c = (c.mark_stretch.auto.mark ∙ c.loop-x.invariant.0, inputs_next c.args.starts.now c.loop-x.invariant.1 c.mark_stretch.ensures)
