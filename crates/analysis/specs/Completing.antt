-- The node table of a tree is finished, and what comes of it: 11, or done.
-- Assumes nothing.
use Rattle.std.specs.Prelude.{ℕ, ◌≤◌, length}
use Rattle.paper.specs.Limits.{limits}
use Rattle.paper.specs.Trees.{events, TreeBelow}
use Rattle.paper.specs.Trees as paper
use Rattle.paper.specs.Answers.{CutsFull}
use Rattle.build.specs.Finishing.{Whole}
use Rattle.memory.specs.Memory.{Memory, capacity, AllZero, Lengths}
use Rattle.memory.specs.Outcome.{Refused, at, Done}
use Rattle.memory.specs.Analysis.{Analysis}

-- what a tree that was read keeps, with some events forced or none
pub record Sound (t : paper.Tree) : Type 0 where
  pub some_event : 1 ≤ events t
  pub few_events : events t ≤ limits.events
  pub some_gate : 1 ≤ length t.gates
  pub below : TreeBelow (events t) t.gates

-- such a tree, and its node table is finished, with c nodes
pub record Ground (t : paper.Tree) (m : Memory) (root c : ℕ) : Type 0 where
  pub sound : Sound t
  pub whole : Whole t.gates m.gates m.added m.nodes m.heads m.next root c
  pub lengths : Lengths (length t.gates) m

pub record Grounded (m : Memory) (root c : ℕ) : Type 0 where
  pub tree : paper.Tree
  pub grounds : Ground tree m root c

-- from there: 11, or done
pub data CutsFilled (t : paper.Tree) (m m' : Memory) (a : Analysis) : Type 0 where
  cuts_full : CutsFull t (capacity m.cuts) → Refused (at 11 0) a → AllZero m m' → CutsFilled t m m' a
  done : (CutsFull t (capacity m.cuts) → ⊥) → Done t m m' a → CutsFilled t m m' a

-- of any tree whose node table it is
abbrev pub FillsCuts : Memory → ℕ → ℕ → Memory → Analysis → Type 0
FillsCuts m root c m' a = (t : paper.Tree) → Ground t m root c → CutsFilled t m m' a
