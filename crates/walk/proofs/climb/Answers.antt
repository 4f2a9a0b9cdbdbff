-- `walk::climb` meets its contract. Assumes nothing.
use Prim.Native.Nat.{◌-◌}
use Rattle.walk.proofs.Paths.{fits_entry}
use Rattle.walk.proofs.Steps.{up_start, up_end, up_found, up_more}
use Rattle.walk.proofs.Carry.{carries_holds, carries_pop}
use Rattle.walk.proofs.Follow.{trim_start, trim_pop, parts_pop, shorter_pop}
use native.Mathlib.Omega.{arith}
use Rattle.walk.proofs.climb.Goals as goal

pub loop-d-init : goal.loop-d-init
loop-d-init c = (up_start c.requires.0, c.requires.1, trim_start c.requires.0 c.requires.1)

pub event_of-low-requires : goal.event_of-low-requires
event_of-low-requires c = let f = fits_entry c.loop-d.invariant.0.path (c.loop-d.d - 1) (omega arith) c.wide-i.ensures in (f.two, f.inside)

pub remove-requires : goal.remove-requires
remove-requires c = carries_holds c.loop-d.invariant.0.path c.loop-d.invariant.1 c.loop-d-test.true c.wide-i.ensures c.event_of-low.ensures

pub sound_of-node-requires : goal.sound_of-node-requires
sound_of-node-requires c = let f = fits_entry c.loop-d.invariant.0.path (c.loop-d.d - 1) (omega arith) c.wide-i.ensures in (f.two, f.inside)

pub returns-then-node-ne0 : goal.returns-then-node-ne0
returns-then-node-ne0 c =
    let o = c.loop-d.invariant.0.path in let k = c.loop-d.invariant.1 in let some = c.loop-d-test.true in (
      up_found c.loop-d.invariant.0 some c.wide-i.ensures c.sound_of-node.ensures (omega arith),
      carries_pop o k some c.wide-i.ensures c.event_of-low.ensures c.remove.auto.ws c.remove.ensures,
      parts_pop o k some c.wide-i.ensures c.event_of-low.ensures c.loop-d.invariant.2 c.remove.ensures c.sound_of-node.ensures,
      shorter_pop o k some c.wide-i.ensures c.event_of-low.ensures c.loop-d.invariant.2 c.remove.ensures c.sound_of-node.ensures,
    )

pub loop-d-preserved : goal.loop-d-preserved
loop-d-preserved c =
    let o = c.loop-d.invariant.0.path in let k = c.loop-d.invariant.1 in let some = c.loop-d-test.true in (
      up_more c.loop-d.invariant.0 some c.wide-i.ensures c.sound_of-node.ensures (omega arith),
      carries_pop o k some c.wide-i.ensures c.event_of-low.ensures c.remove.auto.ws c.remove.ensures,
      trim_pop o k some c.wide-i.ensures c.event_of-low.ensures c.loop-d.invariant.2 c.remove.ensures,
    )

pub returns : goal.returns
returns c = up_end c.loop-d.invariant.0 (omega arith) c.loop-d.invariant.1
