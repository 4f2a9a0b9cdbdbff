-- An accepted tree has at most 20,737 bytes.
-- Assumes nothing.
use mathlib.Core.Path.{◌≡◌, refl}
use mathlib.Core.List.{List}
use Prim.Native.Nat.{ℕ, ◌≤◌, ◌<◌}
use native.Mathlib.Omega.{arith}
use lib.ListN.{length}
use lib.Dec.{leb}
use borrow.Author.Tests.{leb-true, leb-false}
use Rattle.paper.specs.Limits.{limits, wide_from}
use Rattle.rules.specs.Longest.{longest_run, longest_tree}
use Rattle.rules.proofs.Cases.{either}
use Rattle.records.specs.Trees.{Lawful}
use Rattle.records.specs.Judge.{Book, accept, outcome}
use Rattle.records.proofs.Runs.{accepted_keeps}
use Rattle.records.proofs.Sums.{belows, belows_rise, all_below}
use Rattle.trees.proofs.Lawful.{lawful_closed}

-- the figures
pub figures : (longest_run ≡ 20992) × (longest_tree ≡ 20737)
figures = (refl, refl)

-- the events that one byte names: all, or the first 256
module _ {b : Book} (w : Lawful limits b) where
  few_named : length b.events ≤ wide_from → length b.events ≤ belows wide_from b.inputs
  few_named h = omega (arith, all_below b.inputs (length b.events) w.events_used, belows_rise b.inputs (length b.events) wide_from h)

  many_named : wide_from ≤ length b.events → wide_from ≤ belows wide_from b.inputs
  many_named h = all_below b.inputs wide_from (λ e l. w.events_used e (omega arith))

-- each event stands in an input, of two bytes below 256: at most 1,024 × 7 + 512 × 3 + 256 × 2 + 3,840 × 3 + 1
pub longest : (bytes : List ℕ) (b : Book) → outcome limits bytes ≡ accept b → length bytes ≤ longest_tree
longest bytes b e =
    let v = accepted_keeps bytes (λ _. Unit {0}) (λ b c site sited next k p on. tt) (λ b kind least n next k p on. tt) (λ b i next k p on. tt) b tt e in
    let w = lawful_closed v in
    either (leb (length b.events) wide_from)
    (λ q. omega (arith, few_named w (leb-true (length b.events) wide_from q), v.kept.low, v.close.short, leb-true (length b.events) wide_from q, w.few_gates, w.few_inputs))
    (λ q.
    let many : wide_from < length b.events = leb-false (length b.events) wide_from q in
    omega (arith, many_named w (omega arith), v.kept.low, v.close.short, w.few_events, w.few_gates, w.few_inputs))
