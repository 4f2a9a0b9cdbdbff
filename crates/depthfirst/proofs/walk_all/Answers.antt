-- `depthfirst::walk_all` meets its contract. Assumes nothing.
use native.Mathlib.Omega.{arith}
use mathlib.Core.Path.{refl, ◌∙◌}
use Rattle.depthfirst.proofs.All.{rooms_kept, idle_clear, covers_none, covers_next, covers_all}
use Rattle.depthfirst.proofs.walk_all.Goals as goal

pub loop-i-init : goal.loop-i-init
loop-i-init c = (covers_none (idle_clear c.args.starts.now c.args.inputs.now c.args.order.now (omega (arith, c.clear.auto.mark, c.requires.rooms.marks)) c.clear.ensures), rooms_kept c.requires.rooms c.clear.auto.mark refl refl refl, refl, refl, refl, refl)

pub loop-i-preserved : goal.loop-i-preserved
loop-i-preserved c = (covers_next c.loop-i.invariant.0 (rw c.in_ok-left.was at c.walk_on.ensures), rooms_kept c.loop-i.invariant.1 c.walk_on.auto.mark c.walk_on.auto.stack c.walk_on.auto.at c.walk_on.auto.order, c.walk_on.auto.mark ∙ c.loop-i.invariant.2, c.walk_on.auto.stack ∙ c.loop-i.invariant.3, c.walk_on.auto.at ∙ c.loop-i.invariant.4, c.walk_on.auto.order ∙ c.loop-i.invariant.5)

pub returns : goal.returns
returns c = covers_all c.loop-i.invariant.1.marks c.loop-i.invariant.0 (omega (arith, c.loop-i.auto.i-end, c.loop-i-test.false))
