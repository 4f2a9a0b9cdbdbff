-- The bytes of a tree in memory, whatever its fields hold, and what they tell.
use Rattle.std.specs.Prelude.{ℕ, zero, suc, ◌+◌, ◌-◌, Bool, List, ◌++◌, get_or, ltb, eqb}
use Rattle.paper.specs.Limits.{limits, wide_from}
use Rattle.paper.specs.Lists.{sum}
use Rattle.std.specs.Prelude.{if◌then◌else◌}
use Rattle.rules.specs.Format.{event_in, encode}
use Rattle.paper.specs.Flat.{gates_from}
use Rattle.records.specs.Memory.{pad, tabulate, no_event}
use Rattle.rules.specs.declared.format.Record.{Record}
use Rattle.rules.specs.declared.format.Record.TheVariants.{Unknown, Gate, EventInput, GateInput, WideInput, End}
use Rattle.rules.specs.declared.judge.State.{State}
use Rattle.records.specs.declared.Event.{Event}
use Rattle.records.specs.declared.Tree.{Tree}

-- an event's number takes two bytes from `wide_from` on, and only there
abbrev pub input_record : ℕ → Record
input_record code =
    if ltb code wide_from then EventInput code else
    if ltb code gates_from then WideInput code else
    GateInput (code - gates_from)

abbrev pub gate_record : ℕ → ℕ → ℕ → Record
gate_record kind k n =
    if eqb kind 2 then Gate 2 0 n else
    if eqb kind 3 then Gate 3 0 n else
    if eqb kind 4 then Gate 4 k n else
    Unknown

-- the record that comes next, once e events, g gates and i inputs are written and l inputs of the last gate are wanted. What lies behind an
-- array counts as an event of chance 0 and as an and of no input.
abbrev pub event_at : Bool → Event → ℕ → Record
event_at sited x e = if ltb e limits.events then event_in sited x.chance x.site else event_in sited 0 0

abbrev pub gate_at : List ℕ → List ℕ → List ℕ → ℕ → Record
gate_at kinds leasts sizes g =
    if ltb g limits.gates then gate_record (get_or kinds g 0) (get_or leasts g 0) (get_or sizes g 0) else
    Gate 2 0 0

abbrev pub input_at : List ℕ → ℕ → Record
input_at inputs i = input_record (get_or inputs i 0)

-- of so many events and gates, at s, with sites or without, the next event being the one given; once the events are written, an input, a gate or the end
abbrev pub later_of : ℕ → List ℕ → List ℕ → List ℕ → List ℕ → State → Record
later_of gates kinds leasts sizes inputs s =
    if ltb 0 s.left then input_at inputs s.inputs else
    if ltb s.gates gates then gate_at kinds leasts sizes s.gates else
    End

abbrev pub next_of : ℕ → ℕ → Bool → Event → List ℕ → List ℕ → List ℕ → List ℕ → State → Record
next_of events gates sited x kinds leasts sizes inputs s =
    if ltb s.events events then event_at sited x s.events else later_of gates kinds leasts sizes inputs s

abbrev pub held_event : Tree → ℕ → Event
held_event t e = get_or t.events e no_event

-- n inputs from i on, and what follows them
unfoldable pub input_bytes : Tree → ℕ → ℕ → List ℕ → List ℕ
input_bytes t zero i rest = rest
input_bytes t (suc n) i rest = encode (input_at t.inputs i) ++ input_bytes t n (i + 1) rest

-- n gates from g on, the first input of which is i, and the end
unfoldable pub gate_bytes : Tree → ℕ → ℕ → ℕ → List ℕ
gate_bytes t zero g i = encode End
gate_bytes t (suc n) g i =
    encode (gate_at t.kinds t.leasts t.sizes g)
    ++ input_bytes t (get_or t.sizes g 0) i (gate_bytes t n (g + 1) (i + get_or t.sizes g 0))

-- n events from e on, and what follows them
unfoldable pub event_bytes : Tree → ℕ → ℕ → List ℕ
event_bytes t zero e = gate_bytes t t.gate_count 0 0
event_bytes t (suc n) e = encode (event_at t.sited (held_event t e) e) ++ event_bytes t n (e + 1)

unfoldable pub bytes_of : Tree → List ℕ
bytes_of t = event_bytes t t.event_count 0

-- the k that a gate's record tells: an and and an or have none
abbrev pub told_least : ℕ → ℕ → ℕ
told_least kind k = if eqb kind 4 then k else 0

-- and the event that its record tells: without a site, it has site 0
abbrev pub told_event : Bool → Event → Event
told_event sited e = record { chance = e.chance; site = if sited then e.site else 0 }

-- what the bytes of t tell: nothing of what lies behind its counts
unfoldable pub told : Tree → Tree
told t = record {
  events = pad limits.events no_event (tabulate t.event_count (λ e. told_event t.sited (held_event t e)));
  event_count = t.event_count;
  sited = t.sited;
  kinds = pad limits.gates 0 (tabulate t.gate_count (λ g. get_or t.kinds g 0));
  leasts = pad limits.gates 0 (tabulate t.gate_count (λ g. told_least (get_or t.kinds g 0) (get_or t.leasts g 0)));
  sizes = pad limits.gates 0 (tabulate t.gate_count (λ g. get_or t.sizes g 0));
  gate_count = t.gate_count;
  inputs = pad limits.in_all 0 (tabulate (sum (tabulate t.gate_count (λ g. get_or t.sizes g 0))) (λ i. get_or t.inputs i 0));
}
