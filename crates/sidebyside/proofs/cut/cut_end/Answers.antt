-- `sidebyside::cut::cut_end` meets its contract. Assumes nothing.
use native.Mathlib.Omega.{arith}
use Rattle.sidebyside.proofs.OneCut.{ending_start, ending_out, ending_here, ending_other, ending_low, ending_room, ending_step}
use Rattle.sidebyside.proofs.cut.cut_end.Goals as goal

pub loop-e-init : goal.loop-e-init
loop-e-init c = ending_start c.requires.0 c.requires.1

pub returns-then-e-least : goal.returns-then-e-least
returns-then-e-least c = ending_low c.loop-e.invariant c.loop-e-test.true c.if-e-least.true

pub overflow_add-i : goal.overflow_add-i
overflow_add-i c = omega (arith, (ending_room c.loop-e.invariant c.loop-e-test.true c.width-i.ensures).1)

pub rank-e-requires : goal.rank-e-requires
rank-e-requires c = (ending_room c.loop-e.invariant c.loop-e-test.true c.width-i.ensures).1

pub loop-e-smaller : goal.loop-e-smaller
loop-e-smaller c = omega (arith, (ending_room c.loop-e.invariant c.loop-e-test.true c.width-i.ensures).0, (ending_room c.loop-e.invariant c.loop-e-test.true c.width-i.ensures).1)

pub loop-e-preserved : goal.loop-e-preserved
loop-e-preserved c = ending_step c.loop-e.invariant c.loop-e-test.true c.width-i.ensures c.if-e-least.false c.rank-e.ensures

pub returns-then-i-s : goal.returns-then-i-s
returns-then-i-s c = ending_out c.loop-e.invariant c.if-i-s.true

pub bounds-s-i : goal.bounds-s-i
bounds-s-i c = omega (arith, c.loop-e.invariant.inside, c.if-i-s.false)

pub overflow_add-result : goal.overflow_add-result
overflow_add-result c = omega (arith, c.loop-e.invariant.inside, c.if-i-s.false)

pub returns-then-s-i-eq-END : goal.returns-then-s-i-eq-END
returns-then-s-i-eq-END c = ending_here c.loop-e.invariant c.if-i-s.false c.if-s-i-eq-END.true

pub returns : goal.returns
returns c = ending_other c.loop-e.invariant c.if-i-s.false c.loop-e-test.false c.if-s-i-eq-END.false
