-- `depthfirst::number` meets its contract. Assumes nothing.
use mathlib.Core.Path.{◌≡◌}
use lib.ListN.{length, take}
use Rattle.depthfirst.specs.Inputs.{inputs_of}
use Rattle.depthfirst.specs.Answers.{Numbers}
use Rattle.depthfirst.proofs.number.Given as goal

abbrev pub invariant-loop-i : goal.invariant-loop-i
invariant-loop-i l =
    (length l.numbers ≡ length l.initial.numbers) × Numbers (inputs_of l.starts l.inputs) (take l.i l.order) l.numbers l.events l.gates
