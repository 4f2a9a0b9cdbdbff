-- `settings::judge`
use mathlib.Core.Path.{refl}
use native.Mathlib.Omega.{arith}
use Rattle.settings.proofs.Reading.{judging_start, judging_short, judging_fault, judging_next, judging_end}
use Rattle.paper.proofs.Refusals.{number_above}
use Rattle.settings.proofs.judge.Goals as goal

pub loop-at-init : goal.loop-at-init
loop-at-init c = judging_start _ _

pub returns-then-store-at-lt-ENTRY : goal.returns-then-store-at-lt-ENTRY
returns-then-store-at-lt-ENTRY c = judging_short c.loop-at.invariant c.loop-at-test.true c.if-store-at-lt-ENTRY.true

pub returns-in-Err : goal.returns-in-Err
returns-in-Err c =
    let some = number_above c.in-Err.why in
    judging_fault c.loop-at.invariant (omega (arith, c.if-store-at-lt-ENTRY.false, c.loop-at-test.true)) c.in-Err.ensures (λ z. omega arith)

pub loop-at-preserved : goal.loop-at-preserved
loop-at-preserved c = judging_next c.loop-at.invariant (omega (arith, c.if-store-at-lt-ENTRY.false, c.loop-at-test.true)) c.in-Ok.ensures refl c.edition_at-last.ensures

pub returns : goal.returns
returns c = judging_end c.loop-at.invariant c.loop-at-test.false

pub returns-in-Ok : goal.returns-in-Ok
returns-in-Ok c =
    judging_end (judging_next c.loop-at.invariant (omega (arith, c.if-store-at-lt-ENTRY.false, c.loop-at-test.true)) c.in-Ok.ensures refl c.edition_at-last.ensures) (omega arith)
