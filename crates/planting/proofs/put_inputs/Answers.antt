-- `planting::put_inputs` meets its contract. Assumes nothing.
use mathlib.Core.Path.{refl}
use Rattle.planting.proofs.Putting.{putting_none, put_small, put_more}
use Rattle.planting.proofs.put_inputs.Goals as goal

pub loop-p-init : goal.loop-p-init
loop-p-init c = putting_none c.requires _ refl

pub code-requires-clause-y_bound : goal.code-requires-clause-y_bound
code-requires-clause-y_bound c = put_small c.requires c.loop-p.invariant refl c.loop-p-test.true refl

pub loop-p-preserved : goal.loop-p-preserved
loop-p-preserved c = put_more c.requires c.loop-p.invariant refl c.loop-p-test.true refl c.code.ensures
