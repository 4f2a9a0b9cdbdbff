-- `lists::read_set` meets its contract. Assumes nothing.
use mathlib.Core.Path.{sym, ap, ◌∙◌}
use lib.ListN.{length}
use Rattle.lists.proofs.read_set.Goals as goal

pub loop-j-init : goal.loop-j-init
loop-j-init c = ap length c.empty-set.ensures

pub slice_bounds-put-end : goal.slice_bounds-put-end
slice_bounds-put-end c = sym c.loop-j.invariant

pub put-requires : goal.put-requires
put-requires c = c.loop-j.invariant

pub loop-j-preserved : goal.loop-j-preserved
loop-j-preserved c = c.put.auto.set ∙ c.loop-j.invariant

pub returns : goal.returns
returns c = c.loop-j.invariant
