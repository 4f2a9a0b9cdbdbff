-- `totals::add` meets its contract. Assumes nothing.
use native.Mathlib.Omega.{arith}
use Rattle.totals.specs.Adding.{numbers_of}
use Rattle.totals.proofs.Adding.{adding_none, adding_more, added_over, added_all, added_no, added_yes}
use Rattle.totals.proofs.add.Goals as goal

pub loop-k-init : goal.loop-k-init
loop-k-init c = adding_none (numbers_of c.args.counts.now) c.args.totals.now

pub returns-in_err-totals : goal.returns-in_err-totals
returns-in_err-totals c = let h = c.in_err-totals.ensures in rw c.from_residual.ensures (added_no (added_over c.loop-k.invariant c.loop-k-test.true (omega (arith, h))))

pub loop-k-preserved : goal.loop-k-preserved
loop-k-preserved c = let h = c.in_ok-totals.ensures in rw h.1 (adding_more c.loop-k.invariant (omega (arith, c.requires)) (omega (arith, h)))

pub returns : goal.returns
returns c = added_yes (added_all c.loop-k.invariant (omega arith) (omega arith))
