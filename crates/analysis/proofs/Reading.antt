-- A tree that was read: what it keeps, and its arrays.
-- Assumes nothing.
use mathlib.Core.Path.{◌≡◌, refl, sym, ap, ap₂, ◌∙◌, subst}
use mathlib.Core.List.{List, map}
use Prim.Native.Nat.{ℕ}
use native.Mathlib.Omega.{arith}
use lib.ListN.{length, take}
use Rattle.paper.specs.Limits.{limits}
use Rattle.paper.specs.Trees.{TreeBelow}
use Rattle.paper.specs.Flat.{gates_of}
use Rattle.records.specs.Judge.{Book}
use Rattle.records.specs.Memory.{memory}
use Rattle.records.specs.Trees.{Lawful, tree_of, tree_in}
use Rattle.records.specs.declared.Event.{Event}
use Rattle.records.specs.declared.Tree.{Tree}
use Rattle.records.proofs.Pad.{pad_take}
use Rattle.trees.proofs.Lawful.{tree_below, tree_events, tree_gates}
use Rattle.trees.proofs.InMemory.{gates_in_memory}
use Rattle.build.specs.Memory.{Arrays}
use Rattle.build.proofs.Reading.{arrays_memory}
use Rattle.build.specs.Finishing.{Areas, Whole, TooMany}
use Rattle.memory.specs.Memory.{Memory, Lengths}
use Rattle.memory.proofs.Before.{SameLengths, lengths_from}
use Rattle.analysis.specs.Completing.{Sound}
use Rattle.analysis.specs.Filling.{WasRead, Buildable}

read_gates : (b : Book) → Lawful limits b → (tree_in (memory b)).gates ≡ (tree_of b).gates
unfolding tree_in memory
read_gates b l = gates_in_memory b l

read_chances : (b : Book) → (tree_in (memory b)).chances ≡ (tree_of b).chances
unfolding tree_in tree_of memory
read_chances b = ap (map (λ (e : Event). e.chance)) (pad_take limits.events _ b.events)

book_count : (b : Book) → length b.sizes ≡ (memory b).gate_count
unfolding memory
book_count b = refl

pub read_tree : (b : Book) → Lawful limits b → tree_in (memory b) ≡ tree_of b
read_tree b l = ap₂ (λ c g. record { chances = c; gates = g }) (read_chances b) (read_gates b l)

pub read_sound : (b : Book) → Lawful limits b → Sound (tree_of b)
read_sound b l =
    let e = tree_events b in
    let k = tree_gates b in
    record {
      some_event = omega (arith, l.some_event);
      few_events = omega (arith, l.few_events);
      some_gate = omega (arith, l.some_gate);
      below = subst (λ n. TreeBelow n (tree_of b).gates) (sym e) (tree_below l).0;
    }

-- ---- the arrays of such a tree

module _ {t : Tree} (w : WasRead t) where
  read_arrays : Arrays t
  read_arrays = subst Arrays (sym w.is) (arrays_memory w.book w.lawful)

  pub read_is : tree_in t ≡ tree_of w.book
  read_is = ap tree_in w.is ∙ read_tree w.book w.lawful

  read_is_sound : Sound (tree_in t)
  read_is_sound = subst Sound (sym read_is) (read_sound w.book w.lawful)

  pub read_count : length (tree_in t).gates ≡ t.gate_count
  read_count = ap (λ x. length x.gates) read_is ∙ tree_gates w.book ∙ book_count w.book ∙ ap (λ (x : Tree). x.gate_count) (sym w.is)

  pub read_buildable : Buildable t
  read_buildable = record { arrays = read_arrays; sound = read_is_sound; count = read_count }

pub build_lengths : {t : Tree} → Buildable t → {m k : Memory} → SameLengths m k → Lengths t.gate_count m → Lengths (length (tree_in t).gates) k
build_lengths w {m} {k} s l = subst (λ n. Lengths n k) (sym w.count) (lengths_from s l)

pub build_areas : {n : ℕ} {m : Memory} → Lengths n m → Areas m.nodes m.heads m.next
build_areas l = record { small = l.node_table.short; linked = omega (arith, l.areas.next, l.node_table.threes); chains = omega (arith, l.areas.heads) }

-- building speaks of the gates in the arrays, which are the tree's
pub whole_in : (t : Tree) {G A T H X : List ℕ} {root c : ℕ} → Whole (gates_of t.kinds t.leasts 0 (take t.gate_count t.sizes) t.inputs) G A T H X root c → Whole (tree_in t).gates G A T H X root c
unfolding tree_in
whole_in t w = w

pub over_in : (t : Tree) {room g : ℕ} → TooMany (gates_of t.kinds t.leasts 0 (take t.gate_count t.sizes) t.inputs) room g → TooMany (tree_in t).gates room g
unfolding tree_in
over_in t o = o
