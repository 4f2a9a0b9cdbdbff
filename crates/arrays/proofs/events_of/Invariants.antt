-- `arrays::events_of` meets its contract. Assumes nothing.
use lib.ListN.{get_or}
use Rattle.paper.specs.Limits.{limits}
use Rattle.records.specs.Memory.{no_event}
use Rattle.arrays.proofs.Filling.{Filled}
use Rattle.arrays.proofs.events_of.Given as goal

abbrev pub invariant-loop-i : goal.invariant-loop-i
invariant-loop-i l = Filled (λ e. record { chance = get_or l.chances e 0; site = get_or l.sites e 0 }) no_event limits.events l.events l.i
