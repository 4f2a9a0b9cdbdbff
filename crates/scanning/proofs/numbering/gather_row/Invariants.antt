-- `scanning::numbering::gather_row` meets its contract. Assumes nothing.
use Rattle.std.proofs.Common.{◌-◌}
use Rattle.scanning.proofs.Gathering.{GatheringRow}
use Rattle.scanning.proofs.numbering.gather_row.Given as goal

abbrev pub invariant-loop-j : goal.invariant-loop-j
invariant-loop-j l = GatheringRow l.text l.initial.names l.count l.stop l.sep l.i l.names l.heads l.next l.c l.j

abbrev pub decreases-loop-j : goal.decreases-loop-j
decreases-loop-j l = l.stop - l.j
