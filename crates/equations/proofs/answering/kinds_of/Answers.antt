-- `equations::answering::kinds_of` meets its contract. Assumes nothing.
use native.Mathlib.Omega.{arith}
use lib.ListN.{length-set}
use Rattle.equations.proofs.GateKinds.{kinds_next}
use Rattle.equations.proofs.answering.kinds_of.Goals as goal

pub loop-n-preserved : goal.loop-n-preserved
loop-n-preserved c = (kinds_next c.args.defs.now c.loop-n.invariant.0 (omega (arith, c.loop-n-test.true, c.requires.count_in_bounds.0, c.loop-n.invariant.1)) (omega (arith, c.loop-n-test.true, c.requires.count_in_bounds.1, c.loop-n.invariant.2)) c.line_of-kind.ensures c.kind_number.ensures c.least_number.ensures, simp length-set c.loop-n.invariant.1, simp length-set c.loop-n.invariant.2)
