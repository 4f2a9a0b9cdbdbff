-- `scanning::inputs::fill` meets its contract. Assumes nothing.
use Rattle.paper.specs.Texts.{lines_of}
use Rattle.paper.specs.Equations.{inputs_in}
use Rattle.scanning.proofs.Filling.{FillingAll}
use Rattle.scanning.proofs.inputs.fill.Given as goal

abbrev pub invariant-loop-n : goal.invariant-loop-n
invariant-loop-n l = FillingAll (inputs_in (lines_of l.text)) l.count l.starts l.inputs l.used l.n
