-- `sizes::collect` meets its contract. Assumes nothing.
use native.Mathlib.Omega.{arith}
use Rattle.sizes.proofs.Reaching.{collecting_start, collecting_step, collecting_end}
use Rattle.sizes.proofs.collect.Goals as goal

pub loop-i-init : goal.loop-i-init
loop-i-init c = (collecting_start c.args.reached.now, omega arith)

pub take-many-requires : goal.take-many-requires
take-many-requires c = (omega (arith, c.loop-i.invariant.0.short), omega arith)

pub loop-i-preserved : goal.loop-i-preserved
loop-i-preserved c = (collecting_step c.loop-i.invariant.0 (omega arith) c.take-many.ensures, omega arith)

pub returns : goal.returns
returns c = collecting_end c.loop-i.invariant.0 (omega arith) c.loop-i.invariant.1
