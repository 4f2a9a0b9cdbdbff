-- `digits::scale` meets its contract. Assumes nothing.
use lib.ListN.{length-set}
use native.Mathlib.Omega.{arith}
use Rattle.digits.proofs.Steps.{scaled_start, scaled_small, scaled_more, scaled_end}
use Rattle.digits.proofs.scale.Goals as goal

pub loop-k-preserved : goal.loop-k-preserved
loop-k-preserved c = scaled_more c.loop-k.invariant c.requires.1 c.requires.2 c.loop-k-test.true

pub returns : goal.returns
returns c = scaled_end c.loop-k.invariant c.requires.1 c.requires.2 c.requires.0 c.loop-k-test.false
