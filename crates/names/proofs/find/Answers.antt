-- `names::find` meets its contract. Assumes nothing.
use native.Mathlib.Omega.{arith}
use Rattle.names.proofs.Interning.{seek_start, seek_miss, turn_room, turn_less, turn_inside, turn_hit, turn_next}
use Rattle.names.proofs.find.Goals as goal

pub bounds-heads-h : goal.bounds-heads-h
bounds-heads-h c = c.requires.first.below

pub loop-i-init : goal.loop-i-init
loop-i-init c = seek_start c.requires.interned c.requires.first

pub overflow_sub-k : goal.overflow_sub-k
overflow_sub-k c = omega (arith, c.loop-i-test.true, c.place-k.ensures)

pub offset_bounds-names-k : goal.offset_bounds-names-k
offset_bounds-names-k c = omega (arith, turn_room c.requires.interned c.loop-i-test.true c.loop-i.invariant c.place-k.ensures, c.requires.interned.room)

pub bounds-names-k : goal.bounds-names-k
bounds-names-k c = omega (arith, turn_room c.requires.interned c.loop-i-test.true c.loop-i.invariant c.place-k.ensures, c.requires.interned.room)

pub same_name-requires : goal.same_name-requires
same_name-requires c =
    record {
      a_in_bounds = turn_inside c.requires.interned c.loop-i-test.true c.loop-i.invariant c.place-k.ensures c.place-a.ensures;
      ends = c.requires.ends;
    }

pub returns-then-same_name : goal.returns-then-same_name
returns-then-same_name c = turn_hit c.requires.interned c.loop-i-test.true c.loop-i.invariant c.place-k.ensures c.place-a.ensures c.same_name.ensures c.if-same_name.true

pub offset_bounds-next-k : goal.offset_bounds-next-k
offset_bounds-next-k c = omega (arith, turn_room c.requires.interned c.loop-i-test.true c.loop-i.invariant c.place-k.ensures, c.requires.interned.room, c.requires.interned.linked)

pub bounds-next-k : goal.bounds-next-k
bounds-next-k c = omega (arith, turn_room c.requires.interned c.loop-i-test.true c.loop-i.invariant c.place-k.ensures, c.requires.interned.room, c.requires.interned.linked)

pub loop-i-smaller : goal.loop-i-smaller
loop-i-smaller c = turn_less c.requires.interned c.loop-i-test.true c.loop-i.invariant c.place-k.ensures

pub loop-i-preserved : goal.loop-i-preserved
loop-i-preserved c = turn_next c.requires.interned c.loop-i-test.true c.loop-i.invariant c.place-k.ensures c.place-a.ensures c.same_name.ensures c.if-same_name.false

pub returns : goal.returns
returns c = seek_miss c.loop-i-test.false c.loop-i.invariant
