-- `atleast::take_input`
use Prim.Native.Nat.{◌-◌}
use Rattle.atleast.proofs.Taking.{Pairing}
use Rattle.atleast.proofs.take_input.Given as goal

-- j is one above the pairs that are left
abbrev pub invariant-loop-j : goal.invariant-loop-j
invariant-loop-j l = Pairing l.k l.xs l.i l.initial.nodes l.count (l.j - 1) l.nodes l.heads l.next l.memo l.row l.used
