-- `decimals::digits` meets its contract. Assumes nothing.
use mathlib.Core.Path.{sym, ◌∙◌}
use lib.ListN.{length-set}
use native.Mathlib.Omega.{arith}
use Rattle.decimals.proofs.Decimals.{half_none, half_more, half_end}
use Rattle.decimals.proofs.digits.Goals as goal

pub loop-rest-init : goal.loop-rest-init
loop-rest-init c = half_none c.args.n c.args.room.now c.requires (omega arith)

pub loop-rest-preserved : goal.loop-rest-preserved
loop-rest-preserved c = half_more c.loop-rest.invariant c.loop-rest-test.true

pub shape_of-room : goal.shape_of-room
shape_of-room c = simp length-set (c.loop-rest.invariant.long ∙ sym c.requires)

pub returns : goal.returns
returns c = half_end c.loop-rest.invariant c.loop-rest-test.false
