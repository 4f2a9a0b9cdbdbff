-- `sidebyside::cut::rank` meets its contract. Assumes nothing.
use native.Mathlib.Omega.{arith}
use mathlib.Core.Path.{refl}
use Prim.Native.Nat.{◌+◌}
use Rattle.sidebyside.proofs.OneCut.{rank_short, rank_other, rank_narrow}
use Rattle.sidebyside.proofs.cut.rank.Goals as goal

pub returns-then-s-i-lt2 : goal.returns-then-s-i-lt2
returns-then-s-i-lt2 c = rank_short c.args.s.now c.args.i refl c.if-s-i-lt2.true

pub returns-then-s-i-eq-MEMBER : goal.returns-then-s-i-eq-MEMBER
returns-then-s-i-eq-MEMBER c = rank_narrow c.args.s.now c.args.i (omega (arith, c.if-s-i-lt2.false, c.requires)) c.if-s-i-eq-MEMBER.true c.from.ensures (omega (arith, c.from.ensures, c.type_inv.s (c.args.i + 1)))

pub wide_rank-requires : goal.wide_rank-requires
wide_rank-requires c = (omega (arith, c.if-s-i-lt2.false, c.requires), c.if-s-i-eq-WIDE.true)

pub returns-then-s-i-eq-WIDE : goal.returns-then-s-i-eq-WIDE
returns-then-s-i-eq-WIDE c = c.wide_rank.ensures

pub returns : goal.returns
returns c = rank_other c.args.s.now c.args.i refl (omega (arith, c.if-s-i-lt2.false, c.requires)) c.if-s-i-eq-MEMBER.false c.if-s-i-eq-WIDE.false
