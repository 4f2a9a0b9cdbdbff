-- `survey::survey` meets its contract.
-- Assumes nothing.
use Prim.Native.Nat.{◌-◌}
use lib.ListN.{length}
use Rattle.judging.specs.Bytes.{bytes_of}
use Rattle.judging.proofs.Surveying.{Surveying}
use Rattle.judging.proofs.survey.Given as goal

abbrev pub invariant-loop-sited : goal.invariant-loop-sited
invariant-loop-sited l = Surveying l.t l.sizes l.places l.inputs l.s

abbrev pub decreases-loop-sited : goal.decreases-loop-sited
decreases-loop-sited l = length (bytes_of l.t) - l.s.at
