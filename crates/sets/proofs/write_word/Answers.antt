-- `sets::write_word` meets its contract. Assumes nothing.
use Prim.Native.Nat.{◌*◌}
use native.Mathlib.Omega.{arith}
use Rattle.sets.proofs.Bytes.{tell_start, tell_long, tell_less, tell_room, tell_put, tell_end}
use Rattle.sets.proofs.write_word.Goals as goal

pub loop-v-init : goal.loop-v-init
loop-v-init c = let m = c.args.k * 64 in (tell_start c.args.w m c.args.at c.args.line.now c.requires.1, tell_start c.args.w m c.args.at c.args.left.now c.requires.2)

pub put_member-requires : goal.put_member-requires
put_member-requires c = (omega (arith, c.requires.0, c.low_bit.ensures.below), tell_room c.loop-v.invariant.0 c.low_bit.ensures)

pub put_member-end-requires : goal.put_member-end-requires
put_member-end-requires c = (omega (arith, c.requires.0, c.low_bit.ensures.below), tell_room c.loop-v.invariant.1 c.low_bit.ensures)

pub loop-v-smaller : goal.loop-v-smaller
loop-v-smaller c = tell_less c.loop-v.invariant.1 c.low_bit.ensures

pub loop-v-preserved : goal.loop-v-preserved
loop-v-preserved c =
    let next = c.put_member-end.ensures.ends in
    (tell_put c.loop-v.invariant.0 c.low_bit.ensures c.put_member.ensures next, tell_put c.loop-v.invariant.1 c.low_bit.ensures c.put_member-end.ensures next)

pub returns : goal.returns
returns c = (tell_end c.loop-v.invariant.0 (omega arith), tell_end c.loop-v.invariant.1 (omega arith))
