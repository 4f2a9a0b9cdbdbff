-- The chances and the sites of a tree's events as arrays, and the events of such arrays.
-- Assumes nothing.
use Rattle.std.specs.Prelude.{◌≡◌, List, ℕ, ◌≤◌, ◌<◌, get_or}
use Rattle.paper.specs.Limits.{limits}
use Rattle.records.specs.Memory.{tabulate}
use Rattle.records.specs.Memory.{no_event}
use Rattle.records.specs.declared.Event.{Event}

-- an array has an element for each event that a tree may have
unfoldable pub chances_of : List Event → List ℕ
chances_of events = tabulate limits.events (λ e. (get_or events e no_event).chance)

unfoldable pub sites_of : List Event → List ℕ
sites_of events = tabulate limits.events (λ e. (get_or events e no_event).site)

unfoldable pub events_of : List ℕ → List ℕ → List Event
events_of chances sites = tabulate limits.events (λ e. record { chance = get_or chances e 0; site = get_or sites e 0 })

-- from the count on the events are all zero
abbrev pub Blank : List Event → ℕ → Type 0
Blank events count = (e : ℕ) → count ≤ e → e < limits.events → get_or events e no_event ≡ no_event
