-- `totals::adds_up` meets its contract. Assumes nothing.
use native.Mathlib.Omega.{arith}
use Rattle.totals.proofs.Lengths.{left_none, left_short, left_more, left_says}
use Rattle.totals.proofs.adds_up.Goals as goal

pub loop-n-init : goal.loop-n-init
loop-n-init c = left_none c.args.lengths.now c.args.size

pub loop-n-preserved : goal.loop-n-preserved
loop-n-preserved c = let h = c.in-Some.ensures in rw h.1 (left_more c.loop-n.invariant c.loop-n-test.true h.0)

pub returns-in_default : goal.returns-in_default
returns-in_default c = let h = c.in_default.ensures in left_short c.loop-n.invariant c.loop-n-test.true (omega (arith, h))

pub returns : goal.returns
returns c = left_says c.loop-n.invariant c.loop-n-test.false
