-- `walk::descend` meets its contract. Assumes nothing.
use mathlib.Core.Path.{refl}
use lib.ListN.{length-set}
use Rattle.walk.proofs.Paths.{room_for, fits_at}
use Rattle.walk.proofs.Steps.{down_start, down_less, down_more, down_end}
use Rattle.walk.proofs.Carry.{carries_room, carries_push}
use Rattle.walk.proofs.Follow.{longer_start, longer_push, longer_up}
use native.Mathlib.Omega.{arith}
use Rattle.walk.proofs.descend.Goals as goal

pub bounds-path-d : goal.bounds-path-d
bounds-path-d c = room_for c.loop-i.invariant.0.path c.loop-i-test.true

pub loop-i-preserved : goal.loop-i-preserved
loop-i-preserved c =
    let o = c.loop-i.invariant.0.path in let two = c.loop-i-test.true in (
      down_more c.loop-i.invariant.0 two c.failed_of-i.ensures,
      simp length-set c.loop-i.invariant.1,
      carries_push o c.loop-i.invariant.2 two c.event_of-high.ensures c.add.auto.ws c.add.ensures,
      longer_push o two c.loop-i.invariant.3 c.loop-i.invariant.4 c.event_of-high.ensures c.add.ensures,
      longer_up o two c.loop-i.invariant.3 c.loop-i.invariant.4 c.event_of-high.ensures c.failed_of-i.ensures,
    )

pub returns : goal.returns
returns c = (down_end c.loop-i.invariant.0 c.loop-i-test.false, c.loop-i.invariant.2, c.loop-i.invariant.3, refl, refl)
