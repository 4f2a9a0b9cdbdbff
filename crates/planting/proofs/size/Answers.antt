-- `planting::size` meets its contract. Assumes nothing.
use mathlib.Core.Path.{◌∙◌}
use Rattle.planting.proofs.Orders.{size_some}
use Rattle.planting.proofs.size.Goals as goal

pub returns : goal.returns
returns c = c.saturating_sub.ensures ∙ size_some c.requires.arrays c.requires.x_lt_count
