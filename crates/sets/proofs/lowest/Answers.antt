-- `sets::lowest` meets its contract. Assumes nothing.
use Prim.Native.Nat.{◌/◌}
use native.Mathlib.Omega.{arith}
use Rattle.sets.proofs.Words.{low_end, found_mid, found_next}
use Rattle.sets.proofs.lowest.Goals as goal

pub returns-then-ws-k : goal.returns-then-ws-k
returns-then-ws-k c = low_end c.args.ws.now c.args.i (omega arith)

pub returns-then-w-ne0 : goal.returns-then-w-ne0
returns-then-w-ne0 c =
    let i = c.args.i in
    found_mid c.args.ws.now i (omega arith) (c.type_inv.ws (i / 64)).fits c.low_bit.ensures

pub returns : goal.returns
returns c =
    found_next c.args.ws.now c.args.i (omega arith) (omega arith) c.lowest_word.ensures
