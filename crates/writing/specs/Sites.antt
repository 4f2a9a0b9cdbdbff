-- The paper's number 22: a site that an event's record has no bytes for.
use Rattle.std.specs.Prelude.{ℕ, zero, suc, ◌+◌, true, false, List, eqb, get_or, Option, Some, None}
use Rattle.std.specs.Prelude.{if◌then◌else◌}
use Rattle.records.specs.Memory.{no_event}
use Rattle.records.specs.declared.Event.{Event}
use Rattle.records.specs.declared.Tree.{Tree}

-- the lowest of the n events from i on whose site is not 0
unfoldable pub lowest_sited : ℕ → ℕ → List Event → Option ℕ
lowest_sited zero i events = None
lowest_sited (suc n) i events = elim (eqb (get_or events i no_event).site 0) [ true ↦ lowest_sited n (i + 1) events | false ↦ Some i ]

-- the lowest event with a site, in a tree whose records have none
abbrev pub lost_site : Tree → Option ℕ
lost_site t = if t.sited then None else lowest_sited t.event_count 0 t.events
