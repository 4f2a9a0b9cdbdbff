-- The counts of an analysed tree: whatever number of events is stated, they are the tree's minimal cuts by size.
-- Assumes nothing.
use mathlib.Core.Path.{◌≡◌, sym, ap, ◌∙◌}
use mathlib.Core.Bool.{true}
use mathlib.Core.List.{List}
use Prim.Native.Nat.{ℕ, ◌≤◌, ◌<◌}
use native.Mathlib.Omega.{arith}
use Rattle.paper.specs.Limits.{limits}
use Rattle.paper.specs.Trees.{Tree, events}
use Rattle.paper.specs.Diagrams.{Diagram, Ordered}
use Rattle.paper.specs.Sizes.{of_size, count_of, cuts_of_size, sizes}
use Rattle.algebra.proofs.Base.{lengthen}
use Rattle.tables.specs.Table.{den}
use Rattle.tables.specs.Lent.{Lent}
use Rattle.tables.proofs.Lent.{root_ordered}
use Rattle.sizes.proofs.Counts.{count_sized}
use Rattle.memory.specs.Memory.{Memory}
use Rattle.memory.specs.Outcome.{Done}
use Rattle.memory.specs.Analysis.{Analysis}
use Rattle.totals.specs.Adding.{counts_of}

-- a cut diagram of some events is one of the most events that a tree may have
wider : {n : ℕ} {T : List ℕ} {c root : ℕ} → Lent true n T c root → Lent true limits.events T c root
wider v = record {
  some_event = omega arith;
  few_events = omega arith;
  threes = v.threes;
  short = v.short;
  fits = v.fits;
  nodes = λ i h l. let (a, k) = v.nodes i h l in let e = a.event in let f = v.few_events in
      (record { event = omega (arith, e, f); failed = a.failed; sound = a.sound; failed_above = a.failed_above; sound_above = a.sound_above }, k);
  root_in = v.root_in;
}

-- and its sets have the same sizes
count_wider : (n k : ℕ) (d : Diagram) → Ordered 0 n d → n ≤ limits.events → count_of limits.events k d ≡ count_of n k d
count_wider n k d o h = count_sized limits.events 0 d (lengthen 0 n limits.events d h o) k ∙ sym (count_sized n 0 d o k)

module _ {t : Tree} {m m' : Memory} {a : Analysis} (d : Done t m m' a) where
  pub tree_lent : Lent true limits.events m'.cuts a.cut_nodes a.cut_root
  tree_lent = wider d.cut_table.lent

  pub tree_counts : (k : ℕ) → k < sizes → counts_of (den m'.cuts a.cut_root) k ≡ cuts_of_size t k
  tree_counts k _ = count_wider (events t) k (den m'.cuts a.cut_root) (root_ordered d.cut_table.lent) d.cut_table.lent.few_events
      ∙ ap (of_size (events t) k) d.cuts_are
