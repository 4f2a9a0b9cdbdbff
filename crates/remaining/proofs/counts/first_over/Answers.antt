-- `remaining::counts::first_over` meets its contract. Assumes nothing.
use native.Mathlib.Omega.{arith}
use Rattle.remaining.proofs.Counting.{over_more}
use Rattle.remaining.proofs.counts.first_over.Goals as goal

pub loop-e-init : goal.loop-e-init
loop-e-init c = λ j h. absurd (omega arith)

pub returns-then-totals-e-ne0 : goal.returns-then-totals-e-ne0
returns-then-totals-e-ne0 c = record { within = omega arith; over = λ _. c.if-totals-e-ne0.true; exact = c.loop-e.invariant }

pub loop-e-preserved : goal.loop-e-preserved
loop-e-preserved c = over_more c.args.totals.now c.loop-e.invariant c.if-totals-e-ne0.false

pub returns : goal.returns
returns c = record { within = omega arith; over = λ h. absurd (omega (arith, h)); exact = λ e h. c.loop-e.invariant e (omega (arith, h, c.loop-e-test.false)) }
