-- `gates::kinds::joined`
use mathlib.Core.List.{map}
use Rattle.tables.specs.Table.{den}
use Rattle.gates.proofs.Folding.{Joining}
use Rattle.gates.proofs.kinds.joined.Given as goal

abbrev pub invariant-loop-i : goal.invariant-loop-i
invariant-loop-i l = Joining l.z (map (den l.initial.nodes) l.xs) l.initial.nodes l.count l.xs l.i l.nodes l.heads l.next l.memo l.b.count l.b.node
