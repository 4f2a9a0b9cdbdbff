-- `forcing::force_inputs`
use Rattle.settings.specs.States.{states_in}
use Rattle.forcing.proofs.Codes.{Changing}
use Rattle.forcing.proofs.force_inputs.Given as goal

abbrev pub invariant-loop-input : goal.invariant-loop-input
invariant-loop-input l = Changing (states_in l.states) l.initial.inputs l.inputs l.input-index
