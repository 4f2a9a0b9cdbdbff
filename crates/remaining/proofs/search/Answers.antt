-- `remaining::search` meets its contract. Assumes nothing.
use mathlib.Core.Path.{refl}
use native.Mathlib.Omega.{arith}
use Rattle.sets.specs.Words.{set_of}
use Rattle.remaining.proofs.Marking.{root_some, root_none}
use Rattle.remaining.proofs.Answering.{room_root, some_missing_lem, searched_none, cleared_now}
use Rattle.remaining.proofs.search.Goals as goal

pub mark_all-requires : goal.mark_all-requires
mark_all-requires c = (c.requires.0, (room_root c.args.some.now c.requires.0 c.requires.1).0, (room_root c.args.some.now c.requires.0 c.requires.1).1)

pub offset_bounds-some-root : goal.offset_bounds-some-root
offset_bounds-some-root c = omega (arith, (room_root c.args.some.now c.requires.0 c.requires.1).0, c.mark_all.auto.some, c.well_formed)

pub bounds-some-root : goal.bounds-some-root
bounds-some-root c = omega (arith, (room_root c.args.some.now c.requires.0 c.requires.1).0, c.mark_all.auto.some)

pub returns-then-some-root-ne1 : goal.returns-then-some-root-ne1
returns-then-some-root-ne1 c = searched_none c.requires.0 (root_none c.args.root c.mark_all.ensures c.if-some-root-ne1.true) (cleared_now c.args.some.now (c.fill.ensures.after (λ y h. h)) c.mark_all.auto.some)

pub first_from-cut-requires : goal.first_from-cut-requires
first_from-cut-requires c = record { diagram = c.requires.0; room = omega (arith, (room_root c.args.some.now c.requires.0 c.requires.1).0, c.mark_all.auto.some); marks = c.mark_all.ensures; some = root_some c.args.root c.mark_all.ensures c.if-some-root-ne1.false }

pub returns : goal.returns
returns c = record {
  number_is = refl;
  no_place = refl;
  long = c.first_from-cut.ensures.0;
  finds = some_missing_lem (set_of c.args.set.now) c.requires.0 (root_some c.args.root c.mark_all.ensures c.if-some-root-ne1.false) c.first_from-cut.ensures.1;
  area = cleared_now c.args.some.now (c.fill-2.ensures.after (λ y h. h)) c.mark_all.auto.some;
}
