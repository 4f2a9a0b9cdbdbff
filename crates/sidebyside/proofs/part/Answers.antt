-- `sidebyside::part` meets its contract. Assumes nothing.
use mathlib.Core.Path.{refl}
use native.Mathlib.Omega.{arith}
use lib.ListN.{drop}
use Rattle.sidebyside.proofs.Whole.{whole_rises}
use Rattle.sidebyside.proofs.Walking.{walk_rises, here}
use Rattle.sidebyside.proofs.Finding.{along_start, along_flip, along_equal, along_alone, along_lower, along_same, parted, orders_flip}
use Rattle.sidebyside.proofs.part.Goals as goal

pub loop-end-init : goal.loop-end-init
loop-end-init c = along_start c.first_end-end.ensures c.first_end-stop.ensures

pub returns-then-stop-eq0 : goal.returns-then-stop-eq0
returns-then-stop-eq0 c = parted c.loop-end.invariant (along_alone c.loop-end.invariant c.loop-end-test.true c.if-stop-eq0.true) c.shown.ensures

pub order-requires : goal.order-requires
order-requires c = (whole_rises (walk_rises c.loop-end.invariant.mine c.loop-end-test.true), whole_rises (walk_rises c.loop-end.invariant.yours (omega (arith, c.if-stop-eq0.false))))

pub returns-in-Less : goal.returns-in-Less
returns-in-Less c = parted c.loop-end.invariant (along_lower c.loop-end.invariant c.loop-end-test.true (omega (arith, c.if-stop-eq0.false)) c.in-Less.ensures) c.shown-in-Less.ensures

pub returns-in-Greater : goal.returns-in-Greater
returns-in-Greater c = parted c.loop-end.invariant (λ g h. along_lower (along_flip c.loop-end.invariant) (omega (arith, c.if-stop-eq0.false)) c.loop-end-test.true (orders_flip (drop c.loop-end.at c.args.y.now) (drop c.loop-end.at c.args.t.now) c.in-Greater.ensures) h g) c.shown-in-Greater.ensures

pub next-e-requires : goal.next-e-requires
next-e-requires c = walk_rises c.loop-end.invariant.mine c.loop-end-test.true

pub next-stop-requires : goal.next-stop-requires
next-stop-requires c = walk_rises c.loop-end.invariant.yours (omega (arith, c.if-stop-eq0.false))

pub loop-end-smaller : goal.loop-end-smaller
loop-end-smaller c = omega (arith, (here c.loop-end.invariant.mine c.loop-end-test.true).on, (here c.loop-end.invariant.mine c.loop-end-test.true).inside)

pub loop-end-preserved : goal.loop-end-preserved
loop-end-preserved c = along_same c.loop-end.invariant c.loop-end-test.true (omega (arith, c.if-stop-eq0.false)) c.in-Equal.ensures c.next-e.ensures c.next-stop.ensures

pub returns-then-stop-eq0-2 : goal.returns-then-stop-eq0-2
returns-then-stop-eq0-2 c = parted c.loop-end.invariant (along_equal c.loop-end.invariant (omega (arith, c.loop-end-test.false)) c.if-stop-eq0-2.true) refl

pub returns : goal.returns
returns c = parted c.loop-end.invariant (λ g h. along_alone (along_flip c.loop-end.invariant) (omega (arith, c.if-stop-eq0-2.false)) (omega (arith, c.loop-end-test.false)) h g) c.shown-2.ensures
