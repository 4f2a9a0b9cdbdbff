-- `records::uses::used` meets its contract.
-- Assumes nothing.
use mathlib.Core.Path.{◌≡◌}
use mathlib.Core.Bool.{false}
use Prim.Native.Nat.{◌+◌, ◌≤◌}
use lib.ListN.{length, drop}
use Rattle.paper.specs.Lists.{sum}
use Rattle.records.specs.Uses.{among}
use Rattle.records.proofs.uses.used.Given as goal

abbrev pub invariant-loop-i : goal.invariant-loop-i
invariant-loop-i l = (l.found ≡ false) × (l.end ≤ length l.inputs) × (among l.wanted l.inputs ≡ among l.wanted (drop l.i l.inputs))

abbrev pub invariant-search : goal.invariant-search
invariant-search l = (l.found ≡ false) × (l.first + sum (drop l.g l.sizes) ≡ length l.inputs) × (among l.wanted l.inputs ≡ among l.wanted (drop l.first l.inputs))
