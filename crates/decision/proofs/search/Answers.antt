-- `decision::search` meets its contract. Assumes nothing.
use native.Mathlib.Omega.{arith}
use Rattle.decision.proofs.Looking.{search_start, search_fault, search_end, search_on, search_rises, search_whole, search_next}
use Rattle.decision.proofs.search.Goals as goal

pub loop-e-init : goal.loop-e-init
loop-e-init c = search_start c.first_end-e.ensures

pub covers-c-requires : goal.covers-c-requires
covers-c-requires c = search_whole c.loop-e.invariant c.loop-e-test.true

pub next-f-requires : goal.next-f-requires
next-f-requires c = search_rises c.loop-e.invariant c.loop-e-test.true

pub loop-e-smaller : goal.loop-e-smaller
loop-e-smaller c = omega (arith, (search_on c.loop-e.invariant c.loop-e-test.true).0, (search_on c.loop-e.invariant c.loop-e-test.true).1)

pub loop-e-preserved : goal.loop-e-preserved
loop-e-preserved c = search_next c.loop-e.invariant c.loop-e-test.true c.covers-c.ensures c.next-f.ensures

pub returns-then-i-s : goal.returns-then-i-s
returns-then-i-s c = search_fault c.loop-e.invariant (omega (arith, c.loop-e-test.false)) c.if-i-s.true

pub returns : goal.returns
returns c = search_end c.loop-e.invariant c.if-i-s.false
