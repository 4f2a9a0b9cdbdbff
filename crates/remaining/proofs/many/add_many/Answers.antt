-- `remaining::many::add_many` meets its contract. Assumes nothing.
use Rattle.remaining.specs.Counting.{amount}
use Rattle.remaining.proofs.Caps.{add_stored}
use Rattle.remaining.proofs.many.add_many.Goals as goal

pub returns : goal.returns
returns c = add_stored (amount c.args.x) c.put_many.ensures c.plus.ensures c.many_at-y.ensures
