-- `counts::count_cuts` meets its contract. Assumes nothing.
use Rattle.std.proofs.Common.{sym, refl, arith}
use Rattle.followup.proofs.Rooms.{fewer}
use Rattle.counts.proofs.Counting.{count_none, count_more, count_end}
use Rattle.counts.proofs.count_cuts.Goals as goal

pub loop-room-init : goal.loop-room-init
loop-room-init c = count_none _ _ _ _ refl

pub slice_bounds-next_room-end : goal.slice_bounds-next_room-end
slice_bounds-next_room-end c = sym c.loop-room.invariant.long

pub next_room-r-requires : goal.next_room-r-requires
next_room-r-requires c =
    record {
      lent = c.requires;
      good_start = c.loop-room.invariant.within;
      longest_in_bounds = omega (arith, c.loop-room.invariant.long);
    }

pub returns-then-r : goal.returns-then-r
returns-then-r c = count_end c.loop-room.invariant c.next_room-r.ensures refl c.if-r.true

pub loop-room-smaller : goal.loop-room-smaller
loop-room-smaller c = fewer c.next_room-r.ensures c.if-r.false

pub loop-room-preserved : goal.loop-room-preserved
loop-room-preserved c = count_more c.loop-room.invariant c.next_room-r.ensures refl c.next_room-r.auto.room
