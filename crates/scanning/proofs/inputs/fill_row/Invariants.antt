-- `scanning::inputs::fill_row` meets its contract. Assumes nothing.
use Prim.Native.Nat.{◌-◌}
use Rattle.paper.specs.Texts.{lines_of}
use Rattle.paper.specs.Equations.{dict_in}
use Rattle.scanning.proofs.Filling.{FillingRow}
use Rattle.scanning.proofs.inputs.fill_row.Given as goal

abbrev pub invariant-loop-j : goal.invariant-loop-j
invariant-loop-j l =
    FillingRow l.text (dict_in (lines_of l.text)) l.stop l.sep l.i l.initial.inputs l.used l.inputs l.u l.j

abbrev pub decreases-loop-j : goal.decreases-loop-j
decreases-loop-j l = l.stop - l.j
