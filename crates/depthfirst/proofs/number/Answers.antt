-- `depthfirst::number` meets its contract. Assumes nothing.
use native.Mathlib.Omega.{arith}
use mathlib.Core.Path.{refl}
use lib.ListN.{length-set}
use Rattle.depthfirst.proofs.Numbering.{number_low, number_few, number_event, number_gate}
use Rattle.depthfirst.proofs.number.Goals.{then-starts-x, else-starts-x}
use Rattle.depthfirst.proofs.number.Goals as goal

pub bounds-starts-x : goal.bounds-starts-x
bounds-starts-x c = omega (arith, number_low c.requires c.loop-i-test.true refl, c.requires.arrays.long)

pub bounds-starts-next : goal.bounds-starts-next
bounds-starts-next c = omega (arith, number_low c.requires c.loop-i-test.true refl, c.requires.arrays.long)

pub bounds-numbers-x : goal.bounds-numbers-x
bounds-numbers-x c = omega (arith, number_low c.requires c.loop-i-test.true refl, c.requires.long, c.loop-i.invariant.0)

pub overflow_add-gates : goal.overflow_add-gates
overflow_add-gates c = omega (arith, number_few c.requires c.loop-i-test.true refl c.loop-i.invariant.0 c.loop-i.invariant.1, c.loop-i-test.true, c.requires.few, c.ranges.count)

pub bounds-numbers-x-else-starts-x : goal.bounds-numbers-x-else-starts-x
bounds-numbers-x-else-starts-x c = omega (arith, number_low c.requires c.loop-i-test.true refl, c.requires.long, c.loop-i.invariant.0)

pub overflow_add-events : goal.overflow_add-events
overflow_add-events c = omega (arith, number_few c.requires c.loop-i-test.true refl c.loop-i.invariant.0 c.loop-i.invariant.1, c.loop-i-test.true, c.requires.few, c.ranges.count)

pub loop-i-preserved : goal.loop-i-preserved
loop-i-preserved c = elim c.if-starts-x.branch [
  | then-starts-x w ↦ rw (w.numbers-is, w.events-is, w.gates-is) (simp length-set c.loop-i.invariant.0, number_gate c.requires c.loop-i-test.true refl c.loop-i.invariant.0 c.loop-i.invariant.1 w.if-starts-x.true)
  | else-starts-x w ↦ rw (w.numbers-is, w.events-is, w.gates-is) (simp length-set c.loop-i.invariant.0, number_event c.requires c.loop-i-test.true refl c.loop-i.invariant.0 c.loop-i.invariant.1 w.if-starts-x.false)
]
