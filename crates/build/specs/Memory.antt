-- What the arrays of a tree in memory keep.
-- Assumes nothing.
use Rattle.std.specs.Prelude.{◌≡◌, List, map, ℕ, ◌+◌, ◌≤◌, ◌<◌, length, get_or, take, drop}
use Rattle.paper.specs.Lists.{sum}
use Rattle.paper.specs.Limits.{limits}
use Rattle.paper.specs.Trees.{Gate}
use Rattle.paper.specs.Flat.{gates_from, failed_from, input_of, gate_of}
use Rattle.records.specs.declared.Tree.{Tree}

-- the inputs of gate g start behind those of the gates before
abbrev pub start_of : List ℕ → ℕ → ℕ
start_of sizes g = sum (take g sizes)

-- gate g
abbrev pub gate_at : List ℕ → List ℕ → List ℕ → List ℕ → ℕ → Gate
gate_at kinds leasts sizes inputs g = gate_of (get_or kinds g 0) (get_or leasts g 0) (map input_of (take (get_or sizes g 0) (drop (start_of sizes g) inputs)))

-- what the arrays of a tree keep that can be built: each input is an event, an earlier gate, or a forced event
pub record Plan (kinds leasts sizes inputs : List ℕ) : Type 0 where
  pub has_kinds : length sizes ≤ length kinds
  pub has_leasts : length sizes ≤ length leasts
  pub has_inputs : sum sizes ≤ length inputs
  pub some : (g : ℕ) → g < length sizes → 1 ≤ get_or sizes g 0
  pub few : (g : ℕ) → g < length sizes → get_or sizes g 0 ≤ limits.inputs
  pub least : (g : ℕ) → g < length sizes → get_or leasts g 0 ≤ get_or sizes g 0
  pub earlier : (g j : ℕ) → g < length sizes → j < get_or sizes g 0 → get_or inputs (start_of sizes g + j) 0 < failed_from → get_or inputs (start_of sizes g + j) 0 < gates_from + g

-- the arrays of such a tree
pub record Arrays (t : Tree) : Type 0 where
  pub few_gates : t.gate_count ≤ limits.gates
  pub all_kinds : length t.kinds ≡ limits.gates
  pub all_leasts : length t.leasts ≡ limits.gates
  pub all_sizes : length t.sizes ≡ limits.gates
  pub all_inputs : length t.inputs ≡ limits.in_all
  pub plan : Plan t.kinds t.leasts (take t.gate_count t.sizes) t.inputs
