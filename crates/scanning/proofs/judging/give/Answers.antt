-- `scanning::judging::give` meets its contract. Assumes nothing.
use Rattle.std.proofs.Common.{arith}
use Rattle.names.proofs.Interning.{zeros_filled}
use Rattle.scanning.proofs.Giving.{giving_start, giving_end}
use Rattle.scanning.proofs.judging.give.Goals as goal

pub loop-at-init : goal.loop-at-init
loop-at-init c = giving_start (omega (arith, c.fill.auto.self, c.requires.count_in_bounds.0)) (omega (arith, c.fill-2.auto.self, c.requires.count_in_bounds.1)) (zeros_filled _ (c.fill.ensures.after (λ y e. e))) (zeros_filled _ (c.fill-2.ensures.after (λ y e. e)))

pub give_line-requires : goal.give_line-requires
give_line-requires c = record { gathered = c.requires.gathered; places = c.requires.places; giving = c.loop-at.invariant; at_in_bounds = c.loop-at-test.true }

pub loop-at-smaller : goal.loop-at-smaller
loop-at-smaller c = let p = rw c.in-Some.is at c.give_line.ensures in omega (arith, p.0, c.loop-at-test.true)

pub loop-at-preserved : goal.loop-at-preserved
loop-at-preserved c = (rw c.in-Some.is at c.give_line.ensures).1

pub returns : goal.returns
returns c = giving_end c.loop-at.invariant c.loop-at-test.false
