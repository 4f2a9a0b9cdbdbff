-- `store::place`
use native.Mathlib.Omega.{arith}
use lib.ListN.{length}
use Rattle.store.proofs.Slots.{scaled_fits, scaled_below}
use Rattle.store.proofs.Memory.{place_at}
use borrow.Author.Rules.{rules}
use Rattle.store.proofs.place.Goals as goal

pub returns : goal.returns
returns c =
    let memo = c.args.memo.now in
    place_at c.requires (scaled_below c.mixed.result (length memo) (length memo) c.mixed.ensures.1 (omega arith) (omega arith))
