-- `names::slot` meets its contract. Assumes nothing.
use Rattle.std.proofs.Common.{◌+◌}
use Rattle.names.proofs.Interning.{Mixing}
use Rattle.names.proofs.slot.Given as goal

abbrev pub invariant-loop-b : goal.invariant-loop-b
invariant-loop-b l = Mixing l.text l.i l.e (l.i + l.b-index) l.h
