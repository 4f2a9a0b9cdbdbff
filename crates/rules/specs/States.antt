-- Where the reading stands: before the first record, past each kind of record, and within the limits.
use Rattle.std.specs.Prelude.{ℕ, ◌+◌, ◌-◌, ◌≤◌, Bool, false}
use Rattle.paper.specs.Limits.{limits}
use Rattle.rules.specs.declared.judge.State.{State}

abbrev pub begun : State
begun = record { at = 0; events = 0; sited = false; gates = 0; inputs = 0; left = 0 }

-- the state past each kind of record
abbrev pub past_event : State → Bool → ℕ → State
past_event s sited next = record { at = next; events = s.events + 1; sited = sited; gates = s.gates; inputs = s.inputs; left = s.left }

abbrev pub past_gate : State → ℕ → ℕ → State
past_gate s n next = record { at = next; events = s.events; sited = s.sited; gates = s.gates + 1; inputs = s.inputs; left = n }

abbrev pub past_input : State → ℕ → State
past_input s next = record { at = next; events = s.events; sited = s.sited; gates = s.gates; inputs = s.inputs + 1; left = s.left - 1 }

-- a state within the limits
pub record Bounded (s : State) : Type 0 where
  pub events : s.events ≤ limits.events
  pub gates : s.gates ≤ limits.gates
  pub inputs : s.inputs + s.left ≤ limits.in_all
