-- At each limit a tree is accepted, and one beyond it is refused at the record that goes beyond: of the definitions themselves.
-- Assumes nothing.
use mathlib.Core.Path.{◌≡◌, refl}
use mathlib.Core.Bool.{true, false}
use mathlib.Core.List.{List, [], ◌∷◌, ◌++◌, map}
use Prim.Native.Nat.{ℕ, zero, suc, ◌+◌, ◌*◌, ◌/◌, ◌%◌}
use Rattle.std.specs.Prelude.{Result, Ok, Err}
use Rattle.paper.specs.Limits.{limits, old_limits, most_bytes}
use Rattle.paper.specs.Answers.{Verdict}
use Rattle.rules.specs.Format.{record_of, body_of}
use Rattle.rules.specs.Rules.{admit_of, step_of}
use Rattle.records.specs.Thresholds.{starved_by}
use Rattle.records.specs.Uses.{among, lowest_unused, unused_of}
use Rattle.records.specs.Judge.{judge, outcome, run, next_step, close_of}
use Rattle.rules.specs.declared.Refusal.{Refusal}
use Rattle.rules.specs.declared.Refusal.TheVariants.{OutOfPlace, Count, Narrow, Reference}
use Rattle.rules.specs.declared.format.Record.{Record}
use Rattle.rules.specs.declared.format.Record.TheVariants.{Event, SitedEvent, Gate, EventInput, WideInput}
use Rattle.rules.specs.declared.judge.Step.{Step}
use Rattle.rules.specs.declared.judge.Step.TheVariants.{AddEvent, AddGate, AddInput}

record Row : Type 0 where
  bytes : List ℕ
  answer : Verdict

abbrev row : List ℕ → ℕ → ℕ → Row
row bytes number place = record { bytes = bytes; answer = record { number = number; place = place } }

-- n times; and n with one number each, from i on
abbrev times : ℕ → List ℕ → List ℕ
times zero l = []
times (suc n) l = l ++ times n l

abbrev each : ℕ → ℕ → (ℕ → List ℕ) → List ℕ
each zero i f = []
each (suc n) i f = f i ++ each n (i + 1) f

-- an event of chance 0, the inputs of event e, by one byte and by two, and of gate g, and the end
abbrev event : List ℕ
event = 1 ∷ 0 ∷ 0 ∷ 0 ∷ 0 ∷ []

abbrev event_in : ℕ → List ℕ
event_in e = 5 ∷ e ∷ []

abbrev wide_in : ℕ → List ℕ
wide_in e = 8 ∷ e % 256 ∷ e / 256 ∷ []

abbrev gate_in : ℕ → List ℕ
gate_in g = 6 ∷ g % 256 ∷ g / 256 ∷ []

abbrev end : List ℕ
end = 7 ∷ []

-- an or of n inputs, all event 0
abbrev ors : ℕ → List ℕ
ors n = 3 ∷ n ∷ times n (event_in 0)

-- n events, the first 256 of them each in one of four gates
abbrev first256 : ℕ → List ℕ
first256 n = times n event ++ each 4 0 (λ g. 3 ∷ 64 ∷ each 64 (64 * g) event_in)

-- a root over these and as many events, of two bytes each, from 256 on
abbrev rooted : ℕ → List ℕ
rooted more = 2 ∷ (4 + more) ∷ (each 4 0 gate_in ++ (each more 256 wide_in ++ end))

abbrev table : List Row
table =
    -- 64 inputs to a gate; events 255, 256 and 257
    row (event ++ (ors 64 ++ end)) 0 0
    ∷ row (event ++ (ors 65 ++ end)) 4 5
    ∷ row (first256 256 ++ rooted 0) 0 0
    ∷ row (first256 257 ++ rooted 0) 8 1280
    ∷ row (first256 258 ++ rooted 2) 0 0
    -- chance D, and k of n: of three inputs that are distinct, and of two that are
    ∷ row (1 ∷ 0x00 ∷ 0xCA ∷ 0x9A ∷ 0x3B ∷ (ors 1 ++ end)) 0 0
    ∷ row (1 ∷ 0x01 ∷ 0xCA ∷ 0x9A ∷ 0x3B ∷ (ors 1 ++ end)) 7 0
    ∷ row (times 3 event ++ (4 ∷ 3 ∷ 3 ∷ (each 3 0 event_in ++ end))) 0 0
    ∷ row (times 3 event ++ (4 ∷ 4 ∷ 3 ∷ (each 3 0 event_in ++ end))) 5 15
    ∷ row (times 2 event ++ (4 ∷ 2 ∷ 3 ∷ (event_in 1 ++ (each 2 0 event_in ++ end)))) 0 0
    ∷ row (times 2 event ++ (4 ∷ 3 ∷ 3 ∷ (event_in 1 ++ (each 2 0 event_in ++ end)))) 5 10
    ∷ []

-- THE LIMITS of a gate's inputs, of what a byte names, of a chance and of k
at_and_beyond : map (λ (r : Row). judge limits r.bytes) table ≡ map (λ (r : Row). r.answer) table
unfolding judge outcome run next_step starved_by step_of record_of body_of close_of unused_of lowest_unused among
at_and_beyond = refl

-- AN OLD READER takes 256 events, and stops at the 257th
abbrev old_table : List Row
old_table =
    row (first256 256 ++ rooted 0) 0 0
    ∷ row (first256 257 ++ rooted 0) 4 1280
    ∷ row (first256 258 ++ rooted 2) 4 1280
    ∷ []

old_reader : map (λ (r : Row). judge old_limits r.bytes) old_table ≡ map (λ (r : Row). r.answer) old_table
unfolding judge outcome run next_step starved_by step_of record_of body_of close_of unused_of lowest_unused among
old_reader = refl

-- a record met where so many events, gates and inputs are there, and so many inputs of the last gate to come
record Met : Type 0 where
  events : ℕ
  gates : ℕ
  inputs : ℕ
  left : ℕ
  next : Record
  step : Result Step Refusal

abbrev met : ℕ → ℕ → ℕ → ℕ → Record → Result Step Refusal → Met
met events gates inputs left next step = record { events = events; gates = gates; inputs = inputs; left = left; next = next; step = step }

-- what it does, at place 9
abbrev does : Met → Result Step Refusal
does m = admit_of limits most_bytes (record { at = 9; events = m.events; sited = false; gates = m.gates; inputs = m.inputs; left = m.left }) m.next

abbrev steps : List Met
steps =
    -- the 1,024th event, and the 1,025th
    met 1023 0 0 0 (Event 5) (Ok (AddEvent 5 0 false 14))
    ∷ met 1024 0 0 0 (Event 5) (Err (Count 9))
    -- the first event with a site; one behind events without is out of place before it is one too many
    ∷ met 0 0 0 0 (SitedEvent 5 65535) (Ok (AddEvent 5 65535 true 16))
    ∷ met 1024 0 0 0 (SitedEvent 5 1) (Err (OutOfPlace 9))
    -- the last event named by one byte, the first by two, and the last of all
    ∷ met 1024 1 0 1 (EventInput 255) (Ok (AddInput 255 11))
    ∷ met 1024 1 0 1 (WideInput 255) (Err (Narrow 9))
    ∷ met 1024 1 0 1 (WideInput 256) (Ok (AddInput 256 12))
    ∷ met 1024 1 0 1 (WideInput 1023) (Ok (AddInput 1023 12))
    ∷ met 1024 1 0 1 (WideInput 1024) (Err (Reference 9))
    -- the 512th gate, and the 513th
    ∷ met 1 511 511 0 (Gate 2 0 1) (Ok (AddGate 2 0 1 11))
    ∷ met 1 512 512 0 (Gate 2 0 1) (Err (Count 9))
    -- 4,096 inputs in all, and 4,097
    ∷ met 1 63 4032 0 (Gate 2 0 64) (Ok (AddGate 2 0 64 11))
    ∷ met 1 63 4033 0 (Gate 2 0 64) (Err (Count 9))
    ∷ met 1 64 4095 0 (Gate 2 0 1) (Ok (AddGate 2 0 1 11))
    ∷ met 1 64 4096 0 (Gate 2 0 1) (Err (Count 9))
    ∷ []

-- THE LIMITS of events, of gates and of inputs in all, at the record that meets them; trees that have so many are run in crate reading
at_a_record : map does steps ≡ map (λ (m : Met). m.step) steps
at_a_record = refl
