-- `remaining::marks::by_failed` meets its contract. Assumes nothing.
use lib.Dec.{eqb}
use lib.ListN.{get_or}
use Rattle.remaining.proofs.Marking.{not_by, then_by}
use Rattle.remaining.proofs.marks.by_failed.Goals as goal

pub returns-then-holds : goal.returns-then-holds
returns-then-holds c = not_by (eqb (get_or c.args.some.now c.args.f 0) 1) c.holds.ensures c.if-holds.true

pub returns : goal.returns
returns c = then_by (eqb (get_or c.args.some.now c.args.f 0) 1) c.holds.ensures c.if-holds.false
