-- `settings::judge`
use Prim.Native.Nat.{◌-◌}
use lib.ListN.{length}
use Rattle.settings.proofs.Reading.{Judging}
use Rattle.settings.proofs.judge.Given as goal

abbrev pub invariant-loop-at : goal.invariant-loop-at
invariant-loop-at l = Judging l.events l.store l.at l.last

abbrev pub decreases-loop-at : goal.decreases-loop-at
decreases-loop-at l = length l.store - l.at
