-- `sidebyside::cut::wide_rank` meets its contract. Assumes nothing.
use native.Mathlib.Omega.{arith}
use mathlib.Core.Path.{refl}
use Prim.Native.Nat.{◌+◌}
use Rattle.sidebyside.proofs.OneCut.{rank_cut, rank_small, rank_far, rank_wide}
use Rattle.sidebyside.proofs.cut.wide_rank.Goals as goal

pub returns-then-s-i-lt3 : goal.returns-then-s-i-lt3
returns-then-s-i-lt3 c = rank_cut c.args.s.now c.args.i c.requires.0 c.requires.1 refl c.if-s-i-lt3.true

pub returns-then-e-lt-FIRST_WIDE : goal.returns-then-e-lt-FIRST_WIDE
returns-then-e-lt-FIRST_WIDE c = rank_small c.args.s.now c.args.i c.requires.0 c.requires.1 c.if-s-i-lt3.false c.wide_number-e.ensures refl c.if-e-lt-FIRST_WIDE.true

pub returns-then-e-ge-EVENTS : goal.returns-then-e-ge-EVENTS
returns-then-e-ge-EVENTS c = rank_far c.args.s.now c.args.i c.requires.0 c.requires.1 c.if-s-i-lt3.false c.wide_number-e.ensures refl c.if-e-ge-EVENTS.true

pub returns : goal.returns
returns c = rank_wide c.args.s.now c.args.i c.requires.0 c.requires.1 c.if-s-i-lt3.false c.wide_number-e.ensures (omega (arith, c.type_inv.s (c.args.i + 1))) c.if-e-lt-FIRST_WIDE.false c.if-e-ge-EVENTS.false
