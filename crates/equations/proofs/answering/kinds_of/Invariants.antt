-- `equations::answering::kinds_of` meets its contract. Assumes nothing.
use mathlib.Core.Path.{◌≡◌}
use lib.ListN.{length}
use Rattle.equations.specs.Kinds.{KindsOf}
use Rattle.equations.proofs.answering.kinds_of.Given as goal

abbrev pub invariant-loop-n : goal.invariant-loop-n
invariant-loop-n l = KindsOf l.text l.n l.kinds l.leasts × (length l.kinds ≡ length l.initial.kinds) × (length l.leasts ≡ length l.initial.leasts)
