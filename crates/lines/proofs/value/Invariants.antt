-- `lines::value` meets its contract. Assumes nothing.
use Rattle.std.proofs.Common.{◌+◌}
use Rattle.lines.proofs.Numbers.{Valued}
use Rattle.lines.proofs.value.Given as goal

abbrev pub invariant-loop-b : goal.invariant-loop-b
invariant-loop-b l = Valued l.s l.i l.e (l.i + l.b-index) l.n
