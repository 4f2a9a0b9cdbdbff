-- `sets::lowest_word` meets its contract: before word k no event from `from` words on is a member. Assumes nothing.
use Prim.Native.Nat.{◌*◌}
use mathlib.Core.Path.{◌≡◌}
use native.Mathlib.Omega.{arith}
use lib.ListN.{get_or}
use Rattle.sets.proofs.Words.{found_low, none_low}
use Rattle.sets.proofs.lowest_word.Goals as goal

pub returns-then-v-ne0 : goal.returns-then-v-ne0
returns-then-v-ne0 c =
    found_low c.args.ws.now (c.args.from * 64) c.loop-k.k c.low_bit.result (omega arith) (omega arith) c.loop-k.invariant c.low_bit.ensures

pub loop-k-preserved : goal.loop-k-preserved
loop-k-preserved c =
    let ws = c.args.ws.now in
    let k = c.loop-k.k in
    let z : get_or ws k 0 ≡ 0 = omega arith in
    none_low ws (c.args.from * 64) k z c.loop-k.invariant

pub returns : goal.returns
returns c =
    record { within = omega arith; above = λ h. omega arith; is = λ h. absurd (omega arith); clear = λ j p q. c.loop-k.invariant j (omega arith) p }
