-- `remaining::counts::write` meets its contract. Assumes nothing.
use mathlib.Core.Path.{refl}
use Prim.Native.Nat.{◌*◌}
use native.Mathlib.Omega.{arith}
use Rattle.remaining.proofs.Counting.{written_none, written_more, written_all}
use Rattle.remaining.proofs.counts.write.Goals as goal

pub loop-e-init : goal.loop-e-init
loop-e-init c = written_none c.args.counts.now c.args.totals.now

pub bounds-counts-e : goal.bounds-counts-e
bounds-counts-e c = omega (arith, c.loop-e.invariant.long)

pub loop-e-preserved : goal.loop-e-preserved
loop-e-preserved c = written_more c.loop-e.invariant (omega arith) refl (omega (arith, (c.type_inv.totals (2 * c.loop-e.e)).fits))

pub shape_of-counts : goal.shape_of-counts
shape_of-counts c = c.loop-e.invariant.long

pub returns : goal.returns
returns c = written_all c.loop-e.invariant (omega arith) (omega arith)
