-- `reading::hexadecimal::parse` meets its contract.
-- Assumes nothing.
use Rattle.reading.specs.Cursors.{Inside}
use lib.ListN.{length}
use Prim.Native.Nat.{◌-◌}
use mathlib.Core.Path.{◌≡◌}
use Rattle.reading.proofs.hexadecimal.parse.Given as goal

abbrev pub invariant-loop-c : goal.invariant-loop-c
invariant-loop-c l = Inside l.c l.bytes × (length l.bytes ≡ length l.initial.bytes)

abbrev pub decreases-loop-c : goal.decreases-loop-c
decreases-loop-c l = length l.line - l.c.at
