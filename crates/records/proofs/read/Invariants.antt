-- `records::read` meets its contract.
-- Assumes nothing.
use Prim.Native.Nat.{◌-◌}
use lib.ListN.{length}
use Rattle.records.proofs.Standing.{Standing}
use Rattle.records.proofs.read.Given as goal

abbrev pub invariant-loop-chance : goal.invariant-loop-chance
invariant-loop-chance l = Standing l.bytes l.t l.places l.s

abbrev pub decreases-loop-chance : goal.decreases-loop-chance
decreases-loop-chance l = length l.bytes - l.s.at
