-- `records::uses::missing` meets its contract.
-- Assumes nothing.
use mathlib.Core.Path.{◌≡◌}
use Prim.Native.Nat.{◌-◌}
use Rattle.records.specs.Uses.{lowest_unused}
use Rattle.records.proofs.uses.missing.Given as goal

abbrev pub invariant-loop-i : goal.invariant-loop-i
invariant-loop-i l = lowest_unused l.count 0 l.from l.inputs ≡ lowest_unused (l.count - l.i) l.i l.from l.inputs
