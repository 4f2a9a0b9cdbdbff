-- Reading goes record by record, and the first faulty record decides.
use Rattle.std.specs.Prelude.{ℕ, zero, suc, ◌+◌, ◌-◌, Bool, false, List, [], ◌∷◌, ◌++◌, length, get_or, Option, Some, None, Result, Ok, Err}
use Rattle.paper.specs.Answers.{Verdict}
use Rattle.paper.specs.Limits.{Limits}
use Rattle.rules.specs.Answers.{verdict}
use Rattle.std.specs.Prelude.{if◌then◌else◌}
use Rattle.rules.specs.Rules.{step_of}
use Rattle.records.specs.Thresholds.{starved_by}
use Rattle.records.specs.Uses.{unused_of}
use Rattle.rules.specs.declared.Refusal.{Refusal}
use Rattle.rules.specs.declared.Refusal.TheVariants.{Cut, Threshold, Unused}
use Rattle.records.specs.declared.Event.{Event}
use Rattle.rules.specs.declared.judge.State.{State}
use Rattle.rules.specs.declared.judge.Step.{Step}
use Rattle.rules.specs.declared.judge.Step.TheVariants.{AddEvent, AddGate, AddInput, Close}

-- What has been read: the place of the next record, how many inputs the last gate still wants, and the tree so far: its events,
-- and whether their records have sites; each gate's kind, k, n and place; the inputs of all gates in a row.
pub record Book : Type 0 where
  pub at : ℕ
  pub left : ℕ
  pub events : List Event
  pub sited : Bool
  pub kinds : List ℕ
  pub leasts : List ℕ
  pub sizes : List ℕ
  pub places : List ℕ
  pub inputs : List ℕ

abbrev pub start : Book
start = record { at = 0; left = 0; events = []; sited = false; kinds = []; leasts = []; sizes = []; places = []; inputs = [] }

abbrev pub counts : Book → State
counts b = record { at = b.at; events = length b.events; sited = b.sited; gates = length b.sizes; inputs = length b.inputs; left = b.left }

-- one more at the end
abbrev pub ◌▷◌ {ℓ} : {A : Type ℓ} → List A → A → List A
◌▷◌ xs x = xs ++ (x ∷ [])

abbrev pub add_event : Book → ℕ → ℕ → Bool → ℕ → Book
add_event b c site sited next = record {
  at = next;
  left = b.left;
  events = ◌▷◌ b.events (record { chance = c; site = site });
  sited = sited;
  kinds = b.kinds;
  leasts = b.leasts;
  sizes = b.sizes;
  places = b.places;
  inputs = b.inputs;
}

abbrev pub add_gate : Book → ℕ → ℕ → ℕ → ℕ → Book
add_gate b kind k n next = record {
  at = next;
  left = n;
  events = b.events;
  sited = b.sited;
  kinds = ◌▷◌ b.kinds kind;
  leasts = ◌▷◌ b.leasts k;
  sizes = ◌▷◌ b.sizes n;
  places = ◌▷◌ b.places b.at;
  inputs = b.inputs;
}

abbrev pub add_input : Book → ℕ → ℕ → Book
add_input b i next = record {
  at = next;
  left = b.left - 1;
  events = b.events;
  sited = b.sited;
  kinds = b.kinds;
  leasts = b.leasts;
  sizes = b.sizes;
  places = b.places;
  inputs = ◌▷◌ b.inputs i;
}

-- whether the last gate has all its inputs, and its k is 0 or above the number of the distinct ones
abbrev pub starved : Book → Bool
starved b = starved_by b.kinds b.leasts b.sizes b.inputs (counts b)

-- the place of the last gate's record
abbrev pub last_place : Book → ℕ
last_place b = get_or b.places (length b.sizes - 1) 0

-- number 5 is decided after a gate's last input and before the next record is looked at, at the place of the gate's record
abbrev pub threshold_step : Book → Result Step Refusal → Result Step Refusal
threshold_step b (Ok (AddInput i next)) = if starved (add_input b i next) then Err (Threshold (last_place b)) else Ok (AddInput i next)
threshold_step b (Ok (AddEvent c site sited next)) = Ok (AddEvent c site sited next)
threshold_step b (Ok (AddGate kind k n next)) = Ok (AddGate kind k n next)
threshold_step b (Ok Close) = Ok Close
threshold_step b (Err a) = Err a

-- what the next record of the bytes does to b
unfoldable pub next_step : Limits → List ℕ → Book → Result Step Refusal
next_step L bytes b = threshold_step b (step_of L bytes (counts b))

pub data Outcome : Type 0 where
  accept : Book → Outcome
  refuse : Refusal → Outcome

-- the place of the lowest unused event, else of the lowest unused gate but the root
abbrev pub unused_by : Book → Option ℕ
unused_by b = unused_of b.sited (length b.events) b.sizes b.places b.inputs

unfoldable pub close_of : Book → Outcome
close_of b = elim (unused_by b) [ Some place ↦ refuse (Unused place) | None ↦ accept b ]

-- the records from b on; each is at least a byte long, so as many turns as there are bytes, and one, are enough
unfoldable pub run : Limits → ℕ → List ℕ → Book → Outcome
run L zero bytes b = refuse (Cut (length bytes))
run L (suc turns) bytes b =
    elim (next_step L bytes b) [
      | Ok s ↦
          elim s [
            | AddEvent c site sited next ↦ run L turns bytes (add_event b c site sited next)
            | AddGate kind k n next ↦ run L turns bytes (add_gate b kind k n next)
            | AddInput i next ↦ run L turns bytes (add_input b i next)
            | Close ↦ close_of b
          ]
      | Err a ↦ refuse a
    ]

unfoldable pub outcome : Limits → List ℕ → Outcome
outcome L bytes = run L (length bytes + 1) bytes start

abbrev pub answer_of : Outcome → Result Book Refusal
answer_of (accept b) = Ok b
answer_of (refuse a) = Err a

-- the paper's number and place for some bytes
unfoldable pub judge : Limits → List ℕ → Verdict
judge L bytes = verdict (answer_of (outcome L bytes))
