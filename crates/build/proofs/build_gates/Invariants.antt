-- `build::build_gates`
use lib.ListN.{length}
use Rattle.build.proofs.Sofar.{Going}
use Rattle.build.proofs.build_gates.Given as goal

abbrev pub invariant-loop-g : goal.invariant-loop-g
invariant-loop-g l =
    Going l.kinds l.leasts l.sizes l.inputs (length l.initial.nodes) (length l.initial.gates) (length l.initial.added) l.gates l.added l.nodes l.heads l.next l.memo l.g l.at l.last.count l.last.node
