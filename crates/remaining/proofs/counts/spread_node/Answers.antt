-- `remaining::counts::spread_node` meets its contract. Assumes nothing.
use mathlib.Core.Path.{sym, ◌∙◌}
use native.Mathlib.Omega.{arith}
use Rattle.remaining.proofs.Counting.{spread_kept, spread_both}
use Rattle.remaining.proofs.counts.spread_node.Goals as goal

pub many_at-w-requires : goal.many_at-w-requires
many_at-w-requires c = c.requires.ways

pub add_many-requires : goal.add_many-requires
add_many-requires c = omega (arith, c.read_node-d.ensures.sound, c.requires.ways)

pub holds-requires : goal.holds-requires
holds-requires c = c.read_node-d.ensures.few

pub returns-then-holds : goal.returns-then-holds
returns-then-holds c = λ root sp. spread_kept sp c.read_node-d.ensures (sym c.holds.ensures ∙ c.if-holds.true) c.many_at-w.ensures c.add_many.ensures

pub add_many-requires-2 : goal.add_many-requires-2
add_many-requires-2 c = omega (arith, c.read_node-d.ensures.failed, c.requires.ways, c.add_many.auto.area)

pub many_at-c-requires : goal.many_at-c-requires
many_at-c-requires c = omega (arith, c.read_node-d.ensures.failed, c.requires.below)

pub add_many-requires-3 : goal.add_many-requires-3
add_many-requires-3 c = omega (arith, c.read_node-d.ensures.few)

pub returns : goal.returns
returns c = λ root sp. spread_both sp c.read_node-d.ensures (sym c.holds.ensures ∙ c.if-holds.false) c.requires.counts c.many_at-w.ensures c.add_many.ensures c.add_many-2.ensures c.many_at-c.ensures c.times.ensures c.add_many-3.ensures
