-- `gates::inputs::input_nodes`
use Rattle.gates.proofs.Rows.{Lining}
use Rattle.gates.proofs.inputs.input_nodes.Given as goal

abbrev pub invariant-loop-i : goal.invariant-loop-i
invariant-loop-i l = Lining l.gates l.inputs l.initial.nodes l.count l.i l.nodes l.heads l.next l.row l.used
