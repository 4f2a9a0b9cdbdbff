-- `arrays::put_events` meets its contract. Assumes nothing.
use lib.ListN.{get_or}
use Rattle.paper.specs.Limits.{limits}
use Rattle.records.specs.Memory.{no_event}
use Rattle.arrays.proofs.Filling.{Front}
use Rattle.arrays.proofs.put_events.Given as goal

abbrev pub invariant-loop-i : goal.invariant-loop-i
invariant-loop-i l =
    Front (λ e. (get_or l.events e no_event).chance) 0 limits.events l.chances l.i × Front (λ e. (get_or l.events e no_event).site) 0 limits.events l.sites l.i
