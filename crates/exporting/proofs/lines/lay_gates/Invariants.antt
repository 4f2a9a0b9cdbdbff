-- `exporting::lines::lay_gates` meets its contract. Assumes nothing.
use Rattle.exporting.proofs.Gates.{Gated}
use Rattle.exporting.proofs.lines.lay_gates.Given as goal

abbrev pub invariant-loop-g : goal.invariant-loop-g
invariant-loop-g l = Gated l.initial.room l.kinds l.leasts l.sizes l.inputs l.gates l.room l.at l.first l.g
