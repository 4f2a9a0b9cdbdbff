-- The answer numbers, and when those that speak of functions, families and sets are given.
-- Assumes nothing.
use Rattle.std.specs.Prelude.{◌≡◌, ◌⊎◌, true, ℕ, ◌+◌, ◌≤◌, ◌<◌, length}
use Rattle.paper.specs.Sets.{Set}
use Rattle.paper.specs.Trees.{Tree, events, root_fun}
use Rattle.paper.specs.Nodes.{nodes_to_gate, nodes_of}
use Rattle.paper.specs.Cuts.{cut_nodes_needed}

-- a number of the list and its place: that of 10 is the gate being built, that of 24 and 13 of a store its faulty record's; a done answer, and any
-- other refusal by 9 or by 11 to 14, has place 0
pub record Verdict : Type 0 where
  pub number : ℕ
  pub place : ℕ

-- the numbers of a reading that refuses
abbrev pub OfReading : ℕ → Type 0
OfReading k = ((1 ≤ k) × (k ≤ 8)) ⊎ (k ≡ 21)

-- the numbers of an analysis that has written nothing: those, and 9
abbrev pub Unwritten : ℕ → Type 0
Unwritten k = OfReading k ⊎ (k ≡ 9)

-- 10: nodes needed exceeds the capacity
abbrev pub NodesFull : Tree → ℕ → Type 0
NodesFull t capacity = capacity < nodes_of t

-- its place: the least gate g for which the nodes needed by gates 0 to g exceed the capacity
pub record FilledAt (t : Tree) (capacity g : ℕ) : Type 0 where
  pub inside : g < length t.gates
  pub over : capacity < nodes_to_gate t (g + 1)
  pub least : (h : ℕ) → capacity < nodes_to_gate t (h + 1) → g ≤ h

-- cut nodes needed by the root of a tree
abbrev pub cut_nodes_of : Tree → ℕ
cut_nodes_of t = cut_nodes_needed (events t) (root_fun t.gates)

-- 11: cut nodes needed exceeds the capacity
abbrev pub CutsFull : Tree → ℕ → Type 0
CutsFull t capacity = capacity < cut_nodes_of t

-- 13: a set names an event beyond the number of events
pub record Beyond (n : ℕ) (S : Set) : Type 0 where
  pub event : ℕ
  pub above : n ≤ event
  pub is : S event ≡ true
