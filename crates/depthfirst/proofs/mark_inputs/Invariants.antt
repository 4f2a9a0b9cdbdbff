-- `depthfirst::mark_inputs` meets its contract. Assumes nothing.
use mathlib.Core.Path.{◌≡◌}
use lib.ListN.{length}
use Rattle.depthfirst.specs.Inputs.{inputs_of}
use Rattle.depthfirst.specs.Marking.{InputsMarked}
use Rattle.depthfirst.proofs.mark_inputs.Given as goal

abbrev pub invariant-loop-x : goal.invariant-loop-x
invariant-loop-x l =
    (length l.mark ≡ length l.initial.mark) × InputsMarked (inputs_of l.starts l.inputs) l.count l.x l.mark
