-- `writing::emission::emit` meets its contract.
-- Assumes nothing.
use Prim.Native.Nat.{◌-◌}
use lib.ListN.{length}
use Rattle.judging.specs.Bytes.{bytes_of}
use Rattle.writing.proofs.Emitting.{Emitting}
use Rattle.writing.proofs.emission.emit.Given as goal

abbrev pub invariant-loop-sited : goal.invariant-loop-sited
invariant-loop-sited l = Emitting l.t l.initial.room l.room l.s

abbrev pub decreases-loop-sited : goal.decreases-loop-sited
decreases-loop-sited l = length (bytes_of l.t) - l.s.at
