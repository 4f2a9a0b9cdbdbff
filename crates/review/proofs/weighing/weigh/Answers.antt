-- `review::weighing::weigh` meets its contract. Assumes nothing.
use mathlib.Core.Path.{refl, ◌∙◌}
use native.Mathlib.Omega.{arith}
use Rattle.walk.proofs.Paths.{rooted}
use Rattle.review.proofs.Weights.{fews_start, picks_start, weighed_of}
use Rattle.review.proofs.weighing.weigh.Goals as goal

pub loop-i-init : goal.loop-i-init
loop-i-init c = (refl, refl, fews_start c.args.nodes.now c.requires.3, picks_start c.args.nodes.now c.requires.1 c.requires.2 c.requires.4)

pub weigh_node-requires : goal.weigh_node-requires
weigh_node-requires c = (rooted c.requires.0 c.loop-i.i c.loop-i-test.true, omega arith, c.loop-i.invariant.2, c.loop-i.invariant.3)

pub loop-i-preserved : goal.loop-i-preserved
loop-i-preserved c = (c.weigh_node.auto.few ∙ c.loop-i.invariant.0, c.weigh_node.auto.picks ∙ c.loop-i.invariant.1, c.weigh_node.ensures.0, c.weigh_node.ensures.1)

pub shape_of-few : goal.shape_of-few
shape_of-few c = c.loop-i.invariant.0

pub shape_of-picks : goal.shape_of-picks
shape_of-picks c = c.loop-i.invariant.1

pub returns : goal.returns
returns c = weighed_of c.loop-i.invariant.2 c.loop-i.invariant.3 c.loop-i-test.false
