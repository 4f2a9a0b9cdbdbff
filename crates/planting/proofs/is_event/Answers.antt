-- `planting::is_event` meets its contract. Assumes nothing.
use Rattle.planting.proofs.Orders.{event_told}
use Rattle.planting.proofs.is_event.Goals as goal

pub returns : goal.returns
returns c = event_told c.requires.arrays c.requires.x_lt_count
