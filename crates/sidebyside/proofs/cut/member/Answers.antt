-- `sidebyside::cut::member` meets its contract. Assumes nothing.
use native.Mathlib.Omega.{arith}
use mathlib.Core.Path.{refl}
use Prim.Native.Nat.{◌+◌}
use Rattle.sidebyside.proofs.OneCut.{rank_other, rank_narrow}
use Rattle.sidebyside.proofs.Whole.{whole_in, narrow_room, wide_room, whole_wide}
use Rattle.sidebyside.proofs.cut.member.Goals as goal

pub bounds-s-i : goal.bounds-s-i
bounds-s-i c = omega (arith, whole_in c.requires)

pub overflow_add-i : goal.overflow_add-i
overflow_add-i c = omega (arith, whole_in c.requires)

pub bounds-s-i-then-s-i-eq-MEMBER : goal.bounds-s-i-then-s-i-eq-MEMBER
bounds-s-i-then-s-i-eq-MEMBER c = omega (arith, narrow_room c.requires c.if-s-i-eq-MEMBER.true)

pub returns-then-s-i-eq-MEMBER : goal.returns-then-s-i-eq-MEMBER
returns-then-s-i-eq-MEMBER c = rank_narrow c.args.s.now c.args.i (narrow_room c.requires c.if-s-i-eq-MEMBER.true) c.if-s-i-eq-MEMBER.true c.from.ensures (omega (arith, c.from.ensures, c.type_inv.s (c.args.i + 1)))

pub bounds-s-i-2 : goal.bounds-s-i-2
bounds-s-i-2 c = omega (arith, whole_in c.requires)

pub overflow_add-i-then-s-i-eq-WIDE : goal.overflow_add-i-then-s-i-eq-WIDE
overflow_add-i-then-s-i-eq-WIDE c = omega (arith, whole_in c.requires)

pub bounds-s-i-then-s-i-eq-WIDE : goal.bounds-s-i-then-s-i-eq-WIDE
bounds-s-i-then-s-i-eq-WIDE c = omega (arith, wide_room c.requires c.if-s-i-eq-WIDE.true)

pub overflow_add-i-then-s-i-eq-WIDE-2 : goal.overflow_add-i-then-s-i-eq-WIDE-2
overflow_add-i-then-s-i-eq-WIDE-2 c = omega (arith, wide_room c.requires c.if-s-i-eq-WIDE.true)

pub bounds-s-i-then-s-i-eq-WIDE-2 : goal.bounds-s-i-then-s-i-eq-WIDE-2
bounds-s-i-then-s-i-eq-WIDE-2 c = omega (arith, wide_room c.requires c.if-s-i-eq-WIDE.true)

pub returns-then-s-i-eq-WIDE : goal.returns-then-s-i-eq-WIDE
returns-then-s-i-eq-WIDE c = whole_wide c.requires c.if-s-i-eq-WIDE.true c.wide_number.ensures (omega (arith, c.type_inv.s (c.args.i + 1)))

pub returns : goal.returns
returns c = rank_other c.args.s.now c.args.i refl (whole_in c.requires) c.if-s-i-eq-MEMBER.false c.if-s-i-eq-WIDE.false
