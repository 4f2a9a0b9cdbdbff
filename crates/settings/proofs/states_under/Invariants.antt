-- `settings::states_under`
use Prim.Native.Nat.{◌-◌}
use lib.ListN.{length}
use Rattle.settings.proofs.Reading.{Setting}
use Rattle.settings.proofs.states_under.Given as goal

abbrev pub invariant-loop-at : goal.invariant-loop-at
invariant-loop-at l = Setting l.events l.store l.asked l.at l.states

abbrev pub decreases-loop-at : goal.decreases-loop-at
decreases-loop-at l = length l.store - l.at
