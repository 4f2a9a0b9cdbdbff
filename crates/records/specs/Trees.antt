-- The tree that was read, and the one that arrays hold, as the paper has them.
use Rattle.std.specs.Prelude.{◌≡◌, true, false, ℕ, ◌+◌, ◌≤◌, ◌<◌, List, [], ◌∷◌, map, length, get_or, take}
use Rattle.paper.specs.Limits.{Limits, billion}
use Rattle.paper.specs.Lists.{sum}
use Rattle.paper.specs.Trees.{Input, event, gate, forced, Gate, and_g, or_g, least_g, Tree}
use Rattle.paper.specs.Flat.{gates_from, gates_of}
use Rattle.rules.specs.Rules.{Fits}
use Rattle.records.specs.Uses.{among}
use Rattle.records.specs.Thresholds.{distinct_at}
use Rattle.records.specs.Judge.{Book}
use Rattle.records.specs.Memory.{no_event}
use Rattle.records.specs.declared.Event.{Event}
use Rattle.records.specs.declared.Tree as held

unfoldable pub tree_of : Book → Tree
tree_of b = record {
  chances = map (λ (e : Event). e.chance) b.events;
  gates = gates_of b.kinds b.leasts 0 b.sizes b.inputs;
}

-- the tree that an array holds
unfoldable pub tree_in : held.Tree → Tree
tree_in t = record {
  chances = map (λ (e : Event). e.chance) (take t.event_count t.events);
  gates = gates_of t.kinds t.leasts 0 (take t.gate_count t.sizes) t.inputs;
}

-- what holds of every tree that is accepted. Gate g has the inputs from the sum of the sizes before it on.
pub record Lawful (L : Limits) (b : Book) : Type 0 where
  pub some_event : 1 ≤ length b.events
  pub some_gate : 1 ≤ length b.sizes
  pub few_events : length b.events ≤ L.events
  pub few_gates : length b.sizes ≤ L.gates
  pub same_kinds : length b.kinds ≡ length b.sizes
  pub same_leasts : length b.leasts ≡ length b.sizes
  pub all_inputs : sum b.sizes ≡ length b.inputs
  pub few_inputs : length b.inputs ≤ L.in_all
  pub chances : (e : ℕ) → e < length b.events → (get_or b.events e no_event).chance ≤ billion
  -- an event whose record has no site has site 0
  pub sites : b.sited ≡ false → (e : ℕ) → e < length b.events → (get_or b.events e no_event).site ≡ 0
  pub kinds : (g : ℕ) → g < length b.sizes → (2 ≤ get_or b.kinds g 0) × (get_or b.kinds g 0 ≤ 4)
  pub sizes : (g : ℕ) → g < length b.sizes → (1 ≤ get_or b.sizes g 0) × (get_or b.sizes g 0 ≤ L.inputs)
  pub leasts : (g : ℕ) → g < length b.sizes → get_or b.kinds g 0 ≡ 4 → (1 ≤ get_or b.leasts g 0) × (get_or b.leasts g 0 ≤ distinct_at b.sizes b.inputs g)
  pub plain : (g : ℕ) → g < length b.sizes → (get_or b.kinds g 0 ≡ 4 → ⊥) → get_or b.leasts g 0 ≡ 0
  pub inputs : (g : ℕ) → g < length b.sizes → (i : ℕ) → i < get_or b.sizes g 0
      → Fits (length b.events) g (get_or b.inputs (sum (take g b.sizes) + i) 0)
  pub events_used : (e : ℕ) → e < length b.events → among e b.inputs ≡ true
  pub gates_used : (g : ℕ) → g + 1 < length b.sizes → among (gates_from + g) b.inputs ≡ true

-- each gate's inputs are events and gates of lower numbers, from gate g on: a tree as it is read has no forced event
abbrev pub InputLower : ℕ → Input → Type 0
InputLower g (event e) = Unit {0}
InputLower g (gate i) = i < g
InputLower g (forced e b) = ⊥

abbrev pub InputsLower : ℕ → List Input → Type 0
InputsLower g [] = Unit {0}
InputsLower g (i ∷ is) = InputLower g i × InputsLower g is

abbrev pub GateLower : ℕ → Gate → Type 0
GateLower g (and_g is) = InputsLower g is
GateLower g (or_g is) = InputsLower g is
GateLower g (least_g k is) = InputsLower g is

abbrev pub TreeLower : ℕ → List Gate → Type 0
TreeLower g [] = Unit {0}
TreeLower g (x ∷ xs) = GateLower g x × TreeLower (g + 1) xs
