-- What the functions inside ask of their callers and tell them.
use Rattle.std.specs.Prelude.{ℕ, ◌+◌, ◌-◌, ◌≤◌, ◌<◌, ◌≡◌, List, length, get_or, take, Option, Some, None}
use Rattle.paper.specs.Limits.{limits}
use Rattle.paper.specs.Lists.{sum}
use Rattle.records.specs.Judge.{Book, counts, unused_by}
use Rattle.records.specs.Memory.{pad, no_event}
use Rattle.records.specs.declared.Tree.{Tree}
use Rattle.rules.specs.declared.judge.State.{State}

-- what is found is one of the n
abbrev pub Below : ℕ → Option ℕ → Type 0
Below n (Some i) = i < n
Below n None = Unit {0}

-- what the search for the last gate's distinct inputs asks of a tree: a gate, within the limits, and as many inputs wanted as the gates have
pub record Counted (sizes : List ℕ) (s : State) : Type 0 where
  pub some : 1 ≤ s.gates
  pub few : s.gates ≤ limits.gates
  pub small : get_or sizes (s.gates - 1) 0 ≤ limits.inputs
  pub wanted : sum (take s.gates sizes) ≡ s.inputs + s.left
  pub room : s.inputs ≤ limits.in_all

-- what the search for an unused item asks of a tree: within the limits, a gate, a place for each gate, and as many inputs as the gates want
pub record Complete (events : ℕ) (sizes places inputs : List ℕ) : Type 0 where
  pub few : events ≤ limits.events
  pub some : 1 ≤ length sizes
  pub few_gates : length sizes ≤ limits.gates
  pub placed : length places ≡ length sizes
  pub whole : sum sizes ≡ length inputs

-- the fronts of these arrays are what b has
pub record Fronts (b : Book) (ns ps is : List ℕ) : Type 0 where
  pub sizes : take (length b.sizes) ns ≡ b.sizes
  pub places : take (length b.sizes) ps ≡ b.places
  pub inputs : take (length b.inputs) is ≡ b.inputs
  pub few_events : length b.events ≤ limits.events
  pub few_gates : length b.sizes ≤ limits.gates
  pub same_places : length b.places ≡ length b.sizes
  pub total_inputs : sum b.sizes ≡ length b.inputs + b.left

-- a tree with a gate, whose gates have all their inputs
abbrev pub Ready : List ℕ → List ℕ → List ℕ → State → Type 0
Ready sizes places inputs s = (b : Book) × Fronts b sizes places inputs × (s ≡ counts b) × (1 ≤ length b.sizes) × (b.left ≡ 0)

abbrev pub Seeks : List ℕ → List ℕ → List ℕ → State → Option ℕ → Type 0
Seeks sizes places inputs s r = (b : Book) → Fronts b sizes places inputs → s ≡ counts b → r ≡ unused_by b

-- t's arrays and ps hold what b has, with zeros behind it
pub record Held (b : Book) (t : Tree) (ps : List ℕ) : Type 0 where
  pub events : t.events ≡ pad limits.events no_event b.events
  pub kinds : t.kinds ≡ pad limits.gates 0 b.kinds
  pub leasts : t.leasts ≡ pad limits.gates 0 b.leasts
  pub sizes : t.sizes ≡ pad limits.gates 0 b.sizes
  pub inputs : t.inputs ≡ pad limits.in_all 0 b.inputs
  pub places : ps ≡ pad limits.gates 0 b.places

-- t with the counts of s
abbrev pub whole : Tree → State → Tree
whole t s = record {
  events = t.events;
  event_count = s.events;
  kinds = t.kinds;
  leasts = t.leasts;
  sizes = t.sizes;
  gate_count = s.gates;
  inputs = t.inputs;
  sited = s.sited;
}
