-- `lists::read_table` meets its contract. Assumes nothing.
use mathlib.Core.Path.{refl, ◌∙◌}
use Rattle.lists.proofs.read_table.Goals as goal

pub loop-i-init : goal.loop-i-init
loop-i-init c = refl

pub store-requires : goal.store-requires
store-requires c = c.number-x.ensures

pub loop-i-preserved : goal.loop-i-preserved
loop-i-preserved c = c.store.auto.table ∙ c.loop-i.invariant

pub shape_of-table : goal.shape_of-table
shape_of-table c = c.loop-i.invariant
