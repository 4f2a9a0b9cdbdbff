-- A tree in memory whose forced events are constants: the numbers that stand for its inputs are changed.
-- Assumes nothing.
use Rattle.std.specs.Prelude.{cond, map, ℕ, ◌+◌, ltb}
use Rattle.paper.specs.Flat.{gates_from, failed_from, sound_from}
use Rattle.paper.specs.Store.{State, free, failed, sound, Settings}
use Rattle.records.specs.declared.Tree.{Tree}

-- what stands for an event in a state
abbrev pub code_as : ℕ → State → ℕ
code_as e free = e
code_as e failed = failed_from + e
code_as e sound = sound_from + e

unfoldable pub force_code : Settings → ℕ → ℕ
force_code s code = cond (ltb code gates_from) (code_as code (s code)) code

-- THE TREE in memory; what is known of its events stays
unfoldable pub force_in : Settings → Tree → Tree
force_in s t = record {
  events = t.events;
  event_count = t.event_count;
  sited = t.sited;
  kinds = t.kinds;
  leasts = t.leasts;
  sizes = t.sizes;
  gate_count = t.gate_count;
  inputs = map (force_code s) t.inputs;
}
