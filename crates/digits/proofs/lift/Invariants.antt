-- `digits::lift` meets its contract. Assumes nothing.
use mathlib.Core.Path.{◌≡◌}
use Prim.Native.Nat.{◌+◌, ◌*◌, ◌^◌}
use lib.ListN.{length}
use Rattle.paper.specs.Limits.{billion}
use Rattle.digits.specs.Digits.{number, Number}
use Rattle.digits.proofs.lift.Given as goal

abbrev pub invariant-loop-k : goal.invariant-loop-k
invariant-loop-k l = (number l.ds ≡ number l.initial.ds * billion ^ l.k) × Number l.ds (l.used + l.k) × (length l.ds ≡ length l.initial.ds)
