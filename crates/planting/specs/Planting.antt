-- What planting answers: Err with the first limit that is broken, Ok where none is.
-- Assumes nothing.
use Rattle.std.specs.Prelude.{◌≡◌, Result, Ok, Err, List, map, ◌++◌, ℕ, ◌+◌, ◌<◌, ◌≤◌, length, get_or}
use Rattle.paper.specs.Limits.{limits}
use Rattle.paper.specs.Lists.{In, flat, sum}
use Rattle.paper.specs.Trees.{Input, Gate, distinct_inputs, Tree}
use Rattle.paper.specs.Flat.{gate_of}
use Rattle.paper.specs.Refusals.{number}
use Rattle.paper.specs.declared.refusal.Refusal.{Refusal}
use Rattle.paper.specs.Importing.{events_break, least_breaks, gate_breaks, gates_break, broken}
use Rattle.records.specs.Memory.{pad, no_event, memory}
use Rattle.records.specs.Flattened.{kind_of, least_of, size_of, code_of, codes_of, event_of, book_of}
use Rattle.records.specs.declared.Event.{Event}
use Rattle.depthfirst.specs.Inputs.{inputs_of, Arrays}
use Rattle.planting.specs.Orders.{input_at}
use Rattle.planting.specs.declared.Sown.{Sown}
use Rattle.records.specs.declared.Tree.{Tree as Built}

-- the events of these chances, so many, fill the array from the front, and break no limit
pub record EventsIn (C : List ℕ) (e : ℕ) (events : List Event) : Type 0 where
  pub within : events_break limits 0 C ≡ 0
  pub count : e ≡ length C
  pub is : events ≡ pad limits.events no_event (map event_of C)

-- the first limit that these events break, by its number, else the events
abbrev pub Sows : List ℕ → Result Sown Refusal → Type 0
Sows C (Ok s) = EventsIn C s.count s.events
Sows C (Err why) = number why ≡ events_break limits 0 C

-- these gates, so many, fill the arrays of kinds, k, n and inputs (so many in all) from the front, and break no limit
pub record GatesIn (X : List Gate) (g used : ℕ) (ks ls ns is : List ℕ) : Type 0 where
  pub within : gates_break limits 0 0 X ≡ 0
  pub count : g ≡ length X
  pub all : used ≡ sum (map size_of X)
  pub kinds : ks ≡ pad limits.gates 0 (map kind_of X)
  pub leasts : ls ≡ pad limits.gates 0 (map least_of X)
  pub sizes : ns ≡ pad limits.gates 0 (map size_of X)
  pub inputs : is ≡ pad limits.in_all 0 (flat codes_of X)

-- THE ANSWER: the first limit that the tree breaks, by its number; where it breaks none, the tree in memory
abbrev pub Plants : Tree → Result Built Refusal → Type 0
Plants T (Ok t) = (broken limits T ≡ 0) × (t ≡ memory (book_of T))
Plants T (Err why) = number why ≡ broken limits T

-- the same, where the events are planted already
abbrev pub PlantsOver : Sown → List Gate → Result Built Refusal → Type 0
PlantsOver e X r = (C : List ℕ) → EventsIn C e.count e.events → Plants (record { chances = C; gates = X }) r

-- ---- one gate

-- 5 or 0, for a gate of this kind and k over d distinct inputs
abbrev pub LeastTold : (kind k d : ℕ) → ℕ → Type 0
LeastTold kind k d r = (is : List Input) → d ≡ length (distinct_inputs is) → r ≡ least_breaks (gate_of kind k is)

-- the number of the limit that it breaks as gate g, with so many inputs in all before it, over n inputs, d of them distinct
abbrev pub GateTold : (g used kind k n d : ℕ) → ℕ → Type 0
GateTold g used kind k n d r =
    (is : List Input) → length is ≡ n → (n ≤ limits.inputs → d ≡ length (distinct_inputs is)) → r ≡ gate_breaks limits g used (gate_of kind k is)

-- the k that memory holds for it
abbrev pub LeastKept : (kind k : ℕ) → ℕ → Type 0
LeastKept kind k r = (is : List Input) → r ≡ least_of (gate_of kind k is)

-- ---- the inputs of a gate

-- the inputs of name x can be put behind `used` others; a gate's number is below the most events too
pub record Putable (S I : List ℕ) (n : ℕ) (N : List ℕ) (x used : ℕ) : Type 0 where
  pub arrays : Arrays S I n
  pub low : x < n
  pub long : n ≤ length N
  pub small : (y : ℕ) → In y (inputs_of S I x) → get_or N y 0 < limits.events
  pub room : used + length (inputs_of S I x) ≤ limits.in_all

-- the inputs of name x are numbered, so that an event is told from a gate
pub record Sortable (S I : List ℕ) (n : ℕ) (N : List ℕ) (x : ℕ) : Type 0 where
  pub arrays : Arrays S I n
  pub low : x < n
  pub long : n ≤ length N
  pub small : (y : ℕ) → In y (inputs_of S I x) → get_or N y 0 < limits.events

-- how many of them are distinct, where a gate may have so many
abbrev pub DistinctTold : (S I N : List ℕ) (x : ℕ) → ℕ → Type 0
DistinctTold S I N x r = length (inputs_of S I x) ≤ limits.inputs → r ≡ length (distinct_inputs (map (input_at S I N) (inputs_of S I x)))

-- where `used` inputs stood in the array, and zeros behind them, those of the names ys stand behind them now
abbrev pub Puts : (S I N : List ℕ) → List ℕ → (used : ℕ) → List ℕ → List ℕ → Type 0
Puts S I N ys used out out' =
    (cs : List ℕ) → length cs ≡ used → out ≡ pad limits.in_all 0 cs → out' ≡ pad limits.in_all 0 (cs ++ map (λ y. code_of (input_at S I N y)) ys)
