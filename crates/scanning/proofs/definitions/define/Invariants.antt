-- `scanning::definitions::define` meets its contract. Assumes nothing.
use Rattle.std.proofs.Common.{◌-◌, length}
use Rattle.scanning.specs.Judged.{Defining, place_code}
use Rattle.scanning.proofs.definitions.define.Given as goal

abbrev pub invariant-loop-at : goal.invariant-loop-at
invariant-loop-at l = Defining l.text l.count l.defs (place_code l.twice) l.at

abbrev pub decreases-loop-at : goal.decreases-loop-at
decreases-loop-at l = length l.text - l.at
