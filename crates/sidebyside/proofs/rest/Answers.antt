-- `sidebyside::rest` meets its contract. Assumes nothing.
use native.Mathlib.Omega.{arith}
use Rattle.sidebyside.proofs.Walking.{walk_rises, rest_start, rest_fault, rest_left, rest_on, rest_next}
use Rattle.sidebyside.proofs.rest.Goals as goal

pub loop-e-init : goal.loop-e-init
loop-e-init c = rest_start c.requires

pub next-f-requires : goal.next-f-requires
next-f-requires c = walk_rises c.loop-e.invariant.standing c.loop-e-test.true

pub overflow_add-n : goal.overflow_add-n
overflow_add-n c = omega (arith, (rest_on c.loop-e.invariant c.loop-e-test.true).0, (rest_on c.loop-e.invariant c.loop-e-test.true).1, c.loop-e.invariant.few)

pub loop-e-smaller : goal.loop-e-smaller
loop-e-smaller c = omega (arith, (rest_on c.loop-e.invariant c.loop-e-test.true).0, (rest_on c.loop-e.invariant c.loop-e-test.true).1)

pub loop-e-preserved : goal.loop-e-preserved
loop-e-preserved c = rest_next c.loop-e.invariant c.loop-e-test.true c.next-f.ensures

pub returns-then-i-s : goal.returns-then-i-s
returns-then-i-s c = rest_fault c.loop-e.invariant (omega (arith, c.loop-e-test.false)) c.if-i-s.true

pub returns : goal.returns
returns c = rest_left c.loop-e.invariant c.if-i-s.false
