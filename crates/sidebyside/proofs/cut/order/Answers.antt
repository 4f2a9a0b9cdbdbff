-- `sidebyside::cut::order` meets its contract. Assumes nothing.
use native.Mathlib.Omega.{arith}
use Rattle.sidebyside.proofs.Whole.{whole_in, share_both, share_fork, share_room, share_step, share_whole}
use Rattle.sidebyside.proofs.TwoCuts.{order_cmp}
use Rattle.sidebyside.proofs.cut.order.Goals as goal

pub loop-first-init : goal.loop-first-init
loop-first-init c = share_both c.requires.0 c.requires.1

pub overflow_add-from : goal.overflow_add-from
overflow_add-from c = omega (arith, whole_in c.loop-first.invariant.0.whole)

pub member-first-requires : goal.member-first-requires
member-first-requires c = c.loop-first.invariant.0.whole

pub overflow_add-start : goal.overflow_add-start
overflow_add-start c = omega (arith, whole_in c.loop-first.invariant.1)

pub member-second-requires : goal.member-second-requires
member-second-requires c = c.loop-first.invariant.1

pub returns-then-first-second : goal.returns-then-first-second
returns-then-first-second c = order_cmp (share_fork c.loop-first.invariant.0 c.member-first.ensures c.member-second.ensures (λ h q. omega (arith, h, q, c.then-first-second.either))) c.cmp.ensures

pub overflow_add-bytes : goal.overflow_add-bytes
overflow_add-bytes c = omega (arith, (share_room c.loop-first.invariant.0 c.member-first.ensures c.member-second.ensures c.if-first-ge-EVENTS.false c.if-first-second.false c.width-bytes.ensures).1)

pub loop-first-smaller : goal.loop-first-smaller
loop-first-smaller c = omega (arith, (share_room c.loop-first.invariant.0 c.member-first.ensures c.member-second.ensures c.if-first-ge-EVENTS.false c.if-first-second.false c.width-bytes.ensures).0, (share_room c.loop-first.invariant.0 c.member-first.ensures c.member-second.ensures c.if-first-ge-EVENTS.false c.if-first-second.false c.width-bytes.ensures).1)

pub loop-first-preserved : goal.loop-first-preserved
loop-first-preserved c = (share_step c.loop-first.invariant.0 c.member-first.ensures c.member-second.ensures c.if-first-ge-EVENTS.false c.if-first-second.false c.width-bytes.ensures, share_whole c.loop-first.invariant.0 c.member-first.ensures c.member-second.ensures c.if-first-ge-EVENTS.false c.if-first-second.false c.width-bytes.ensures c.loop-first.invariant.1)
