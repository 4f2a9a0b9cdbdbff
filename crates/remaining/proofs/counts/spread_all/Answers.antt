-- `remaining::counts::spread_all` meets its contract. Assumes nothing.
use mathlib.Core.Path.{refl, ◌∙◌}
use native.Mathlib.Omega.{arith}
use lib.ListN.{length}
use Rattle.sets.specs.Words.{set_of}
use Rattle.remaining.proofs.Marking.{at_number}
use Rattle.remaining.proofs.Counting.{counted_end, spread_start, spread_down, spread_end}
use Rattle.remaining.proofs.counts.spread_all.Goals as goal

pub loop-i-init : goal.loop-i-init
loop-i-init c = (refl, spread_start c.args.nodes.now (set_of c.args.set.now) c.args.root (length c.args.ways.now) (c.fill.ensures.after (λ y h. h)) c.put_many.ensures refl c.requires.zeros)

pub spread_node-requires : goal.spread_node-requires
spread_node-requires c = record {
  diagram = at_number c.requires.diagram (omega (arith, c.requires.diagram.root_in));
  node = omega arith;
  below = omega arith;
  ways = omega arith;
  counts = counted_end c.requires.counts (omega arith);
}

pub loop-i-preserved : goal.loop-i-preserved
loop-i-preserved c = (c.spread_node.auto.ways ∙ c.loop-i.invariant.0, c.spread_node.ensures c.args.root (spread_down c.loop-i.invariant.1 c.loop-i-test.true))

pub shape_of-ways : goal.shape_of-ways
shape_of-ways c = c.loop-i.invariant.0 ∙ (c.put_many.auto.area ∙ c.fill.auto.self)

pub returns : goal.returns
returns c = spread_end c.loop-i.i c.loop-i.invariant.1 c.loop-i-test.false
