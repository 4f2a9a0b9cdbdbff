-- `matticklet::pages::page` meets its contract. Assumes nothing.
use native.Mathlib.Omega.{arith}
use Prim.Native.Nat.{ℕ}
use lib.ListN.{length-replicate}
use mathlib.Core.Path.{sym}
use Rattle.matticklet.proofs.Turning.{room_page}
use Rattle.matticklet.proofs.pages.page.Goals as goal

pub next_room-r-requires : goal.next_room-r-requires
next_room-r-requires c =
    record {
      lent = c.requires.lent;
      good_start = c.requires.good_start;
      longest_in_bounds = rw length-replicate (omega arith);
    }

pub slice_bounds-spell-end : goal.slice_bounds-spell-end
slice_bounds-spell-end c = sym c.next_room-r.auto.room

pub spell-n-requires : goal.spell-n-requires
spell-n-requires c = (c.next_room-r.ensures.inside, let i = c.next_room-r.ensures.inside in let k = c.next_room-r.auto.room in let e = length-replicate {A = ℕ} 16384 0 in omega arith)

pub returns : goal.returns
returns c = room_page c.next_room-r.ensures c.spell-n.ensures
