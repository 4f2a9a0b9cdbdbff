-- What a record does at a place of the reading: the paper's numbers 1 to 7 but 5, and 21, in their order. The limits are parameters.
use Rattle.std.specs.Prelude.{ℕ, ◌+◌, ◌<◌, Bool, true, false, List, length, drop, ltb, leb, eqb, Result, Ok, Err}
use Rattle.paper.specs.Limits.{Limits, wide_from, billion}
use Rattle.std.specs.Prelude.{if◌then◌else◌}
use Rattle.rules.specs.Format.{record_of, width_of}
use Rattle.paper.specs.Flat.{gates_from}
use Rattle.rules.specs.declared.Refusal.{Refusal}
use Rattle.rules.specs.declared.Refusal.TheVariants.{Cut, UnknownKind, OutOfPlace, Count, Reference, Chance, Narrow}
use Rattle.rules.specs.declared.format.Record.{Record}
use Rattle.rules.specs.declared.format.Record.TheVariants.{Missing, Unknown, Short, Event, SitedEvent, Gate, EventInput, GateInput, WideInput, End}
use Rattle.rules.specs.declared.judge.State.{State}
use Rattle.rules.specs.declared.judge.Step.{Step}
use Rattle.rules.specs.declared.judge.Step.TheVariants.{AddEvent, AddGate, AddInput, Close}

-- an event with a site behind one without, or one without behind one with
abbrev pub mixed : State → Bool → Bool
mixed s sited = if eqb s.events 0 then false else (if s.sited then (if sited then false else true) else sited)

-- `after` is the place of the next record; a mixture is out of place (3), which comes before the limits (4) and the chance (7)
abbrev pub event_step : Limits → State → ℕ → ℕ → ℕ → Bool → Result Step Refusal
event_step L s after c site sited =
    if ltb 0 s.gates then Err (OutOfPlace s.at) else
    if mixed s sited then Err (OutOfPlace s.at) else
    if leb L.events s.events then Err (Count s.at) else
    if ltb billion c then Err (Chance s.at) else
    Ok (AddEvent c site sited after)

abbrev pub gate_step : Limits → State → ℕ → ℕ → ℕ → ℕ → Result Step Refusal
gate_step L s after kind k n =
    if ltb 0 s.left then Err (OutOfPlace s.at) else
    if leb L.gates s.gates then Err (Count s.at) else
    if eqb n 0 then Err (Count s.at) else
    if ltb L.inputs n then Err (Count s.at) else
    if ltb L.in_all (s.inputs + n) then Err (Count s.at) else
    Ok (AddGate kind k n after)

-- k is 0 or above n, in a gate that has a k; number 5 waits for the gate's inputs, since n is how many of them are distinct
abbrev pub wrong_k : ℕ → ℕ → ℕ → Bool
wrong_k kind k n = if eqb kind 4 then (if eqb k 0 then true else ltb n k) else false

abbrev pub event_input_step : State → ℕ → ℕ → Result Step Refusal
event_input_step s after e =
    if eqb s.left 0 then Err (OutOfPlace s.at) else
    if leb s.events e then Err (Reference s.at) else
    Ok (AddInput e after)

-- an event that two bytes name, where one is enough, is 21, whether the event is there or not
abbrev pub wide_input_step : State → ℕ → ℕ → Result Step Refusal
wide_input_step s after e =
    if eqb s.left 0 then Err (OutOfPlace s.at) else
    if ltb e wide_from then Err (Narrow s.at) else
    if leb s.events e then Err (Reference s.at) else
    Ok (AddInput e after)

abbrev pub gate_input_step : State → ℕ → ℕ → Result Step Refusal
gate_input_step s after g =
    if eqb s.left 0 then Err (OutOfPlace s.at) else
    if leb s.gates (g + 1) then Err (Reference s.at) else
    Ok (AddInput (gates_from + g) after)

-- an input that gate g of a tree with so many events may have: one of the events, or a gate with a lower number
pub record Fits (events g code : ℕ) : Type 0 where
  pub below : code < gates_from + g
  pub event : code < gates_from → code < events

-- missing inputs, then bytes after the end, then no event or no gate
abbrev pub end_step : ℕ → State → ℕ → Result Step Refusal
end_step len s after =
    if ltb 0 s.left then Err (OutOfPlace s.at) else
    if ltb after len then Err (OutOfPlace after) else
    if eqb s.events 0 then Err (Count s.at) else
    if eqb s.gates 0 then Err (Count s.at) else
    Ok Close

abbrev pub admit_of : Limits → ℕ → State → Record → Result Step Refusal
admit_of L len s Missing = Err (Cut len)
admit_of L len s Unknown = Err (UnknownKind s.at)
admit_of L len s Short = Err (Cut s.at)
admit_of L len s (Event c) = event_step L s (s.at + width_of (Event c)) c 0 false
admit_of L len s (SitedEvent c site) = event_step L s (s.at + width_of (SitedEvent c site)) c site true
admit_of L len s (Gate kind k n) = gate_step L s (s.at + width_of (Gate kind k n)) kind k n
admit_of L len s (EventInput e) = event_input_step s (s.at + width_of (EventInput e)) e
admit_of L len s (GateInput g) = gate_input_step s (s.at + width_of (GateInput g)) g
admit_of L len s (WideInput e) = wide_input_step s (s.at + width_of (WideInput e)) e
admit_of L len s End = end_step len s (s.at + width_of End)

unfoldable pub step_of : Limits → List ℕ → State → Result Step Refusal
step_of L bytes s = admit_of L (length bytes) s (record_of L (drop s.at bytes))
