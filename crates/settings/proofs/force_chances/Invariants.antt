-- `settings::force_chances`
use Rattle.settings.specs.States.{states_in}
use Rattle.settings.proofs.Chances.{Changing}
use Rattle.settings.proofs.force_chances.Given as goal

abbrev pub invariant-loop-e : goal.invariant-loop-e
invariant-loop-e l = Changing (states_in l.states) l.initial.chances l.chances l.e
