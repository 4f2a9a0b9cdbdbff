-- `scanning::numbering::gather` meets its contract. Assumes nothing.
use Rattle.std.proofs.Common.{◌-◌, length}
use Rattle.scanning.proofs.Gathering.{GatheringAll}
use Rattle.scanning.proofs.numbering.gather.Given as goal

abbrev pub invariant-loop-at : goal.invariant-loop-at
invariant-loop-at l = GatheringAll l.text l.names l.heads l.next l.count l.at

abbrev pub decreases-loop-at : goal.decreases-loop-at
decreases-loop-at l = length l.text - l.at
