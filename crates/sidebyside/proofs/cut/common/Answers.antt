-- `sidebyside::cut::common` meets its contract. Assumes nothing.
use native.Mathlib.Omega.{arith}
use Rattle.sidebyside.proofs.Whole.{whole_in, share_start, share_fork, share_room, share_step}
use Rattle.sidebyside.proofs.cut.common.Goals as goal

pub loop-from-init : goal.loop-from-init
loop-from-init c = share_start c.requires.0 c.requires.1

pub overflow_add-from : goal.overflow_add-from
overflow_add-from c = omega (arith, whole_in c.loop-from.invariant.whole)

pub member-first-requires : goal.member-first-requires
member-first-requires c = c.loop-from.invariant.whole

pub overflow_add-start : goal.overflow_add-start
overflow_add-start c = omega (arith, c.loop-from.invariant.within)

pub rank-second-requires : goal.rank-second-requires
rank-second-requires c = c.loop-from.invariant.within

pub returns-then-first-second : goal.returns-then-first-second
returns-then-first-second c = share_fork c.loop-from.invariant c.member-first.ensures c.rank-second.ensures (λ h q. omega (arith, h, q, c.then-first-second.either))

pub overflow_add-bytes : goal.overflow_add-bytes
overflow_add-bytes c = omega (arith, (share_room c.loop-from.invariant c.member-first.ensures c.rank-second.ensures c.if-first-ge-EVENTS.false c.if-first-second.false c.width-bytes.ensures).1)

pub loop-from-smaller : goal.loop-from-smaller
loop-from-smaller c = omega (arith, (share_room c.loop-from.invariant c.member-first.ensures c.rank-second.ensures c.if-first-ge-EVENTS.false c.if-first-second.false c.width-bytes.ensures).0, (share_room c.loop-from.invariant c.member-first.ensures c.rank-second.ensures c.if-first-ge-EVENTS.false c.if-first-second.false c.width-bytes.ensures).1)

pub loop-from-preserved : goal.loop-from-preserved
loop-from-preserved c = share_step c.loop-from.invariant c.member-first.ensures c.rank-second.ensures c.if-first-ge-EVENTS.false c.if-first-second.false c.width-bytes.ensures
