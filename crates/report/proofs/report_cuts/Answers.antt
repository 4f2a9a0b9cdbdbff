-- `report::report_cuts` meets its contract. Assumes nothing.
use mathlib.Core.Path.{refl, sym, ◌∙◌}
use native.Mathlib.Omega.{arith}
use Rattle.std.proofs.Common.{Some, None}
use mathlib.Core.List.{[]}
use lib.ListN.{take}
use Rattle.tables.specs.Table.{den}
use Rattle.walk.specs.Paths.{around}
use Rattle.walk.specs.After.{to_list}
use Rattle.walk.proofs.Paths.{open_start}
use Rattle.walk.proofs.Carry.{carries_none}
use Rattle.listing.proofs.Bytes.{carries_placed}
use Rattle.listing.proofs.Calls.{run_start, run_long, run_inside, run_end, short_inside, run_short, run_more, run_fits, run_less}
use Rattle.review.specs.Hopes.{worth}
use Rattle.report.proofs.Run.{landed_start, landed_next}
use Rattle.paper.specs.Lists.{keep}
use Rattle.report.proofs.report_cuts.Goals as goal

pub slice_bounds-start-end : goal.slice_bounds-start-end
slice_bounds-start-end c = sym c.requires.1

pub start-next-requires : goal.start-next-requires
start-next-requires c = (open_start _ c.requires.0 c.requires.3, c.requires.1, carries_none _ _ c.requires.4, c.requires.2)

pub loop-next-init : goal.loop-next-init
loop-next-init c =
    let l = to_list c.args.n (den c.args.nodes.now c.args.root) c.args.begin c.args.base in
    let R = worth c.args.edition c.args.chances.now c.args.n in
    (c.start-next.auto.path ∙ c.requires.3, (keep R l, run_start c.args.n (keep R l) c.args.base c.args.room.now, landed_start R _ _ _ _ _ _ _ l c.start-next.result c.start-next.ensures refl refl (omega arith)))

pub put_next-requires : goal.put_next-requires
put_next-requires c =
    let f = c.loop-next.invariant.1.2.some c.in-Some.step c.in-Some.is in
    let r = c.loop-next.invariant.1.1 in
    (f.carries.long, omega (arith, r.within, run_long r), f.ready.between, f.ready.counted, f.ready.spelled, f.ready.many)

pub last_set-last-requires : goal.last_set-last-requires
last_set-last-requires c =
    let f = c.loop-next.invariant.1.2.some c.in-Some.step c.in-Some.is in
    short_inside c.loop-next.invariant.1.1 f.first (carries_placed f.path f.carries c.loop-next.room c.loop-next.used None c.put_next.new.room c.in_default-put_next.ensures.0)

pub shape_of-path-in_default-put_next : goal.shape_of-path-in_default-put_next
shape_of-path-in_default-put_next c = c.loop-next.invariant.0 ∙ sym c.requires.3

pub shape_of-room-in_default-put_next : goal.shape_of-room-in_default-put_next
shape_of-room-in_default-put_next c = c.put_next.auto.room ∙ run_long c.loop-next.invariant.1.1

pub returns-in_default-put_next : goal.returns-in_default-put_next
returns-in_default-put_next c =
    let f = c.loop-next.invariant.1.2.some c.in-Some.step c.in-Some.is in
    run_short c.loop-next.invariant.1.1 f.first (carries_placed f.path f.carries c.loop-next.room c.loop-next.used None c.put_next.new.room c.in_default-put_next.ensures.0) c.last_set-last.ensures c.stopped.ensures

pub overflow_add-used : goal.overflow_add-used
overflow_add-used c =
    let f = c.loop-next.invariant.1.2.some c.in-Some.step c.in-Some.is in
    omega (arith, run_fits c.loop-next.invariant.1.1 f.first (carries_placed f.path f.carries c.loop-next.room c.loop-next.used (Some c.in-Some-put_next.w) c.put_next.new.room c.in-Some-put_next.ensures.0), c.well_formed)

pub overflow_add-k : goal.overflow_add-k
overflow_add-k c = omega (arith, c.loop-next.invariant.1.1.count_le, c.loop-next.invariant.1.1.within, c.well_formed)

pub advance-next-requires : goal.advance-next-requires
advance-next-requires c = let f = c.loop-next.invariant.1.2.some c.in-Some.step c.in-Some.is in (f.path, f.carries, c.requires.2)

pub loop-next-smaller : goal.loop-next-smaller
loop-next-smaller c =
    let f = c.loop-next.invariant.1.2.some c.in-Some.step c.in-Some.is in
    run_less c.loop-next.invariant.1.1 f.first (carries_placed f.path f.carries c.loop-next.room c.loop-next.used (Some c.in-Some-put_next.w) c.put_next.new.room c.in-Some-put_next.ensures.0)

pub loop-next-preserved : goal.loop-next-preserved
loop-next-preserved c =
    let f = c.loop-next.invariant.1.2.some c.in-Some.step c.in-Some.is in
    let w = c.in-Some-put_next.ensures in
    let R = worth c.args.edition c.args.chances.now c.args.n in
    let behind = around c.args.nodes.now (take c.in-Some.step.depth c.loop-next.path) [] in (
      c.advance-next.auto.path ∙ c.loop-next.invariant.0,
      (
        keep R behind,
        run_more c.loop-next.invariant.1.1 f.first (carries_placed f.path f.carries c.loop-next.room c.loop-next.used (Some c.in-Some-put_next.w) c.put_next.new.room w.0) f.path refl,
        landed_next R _ _ _ _ _ _ _ behind c.advance-next.result c.advance-next.ensures f.ready.between w.1 w.2 f.carries.long,
      ),
    )

pub last_set-last-requires-2 : goal.last_set-last-requires-2
last_set-last-requires-2 c = run_inside c.loop-next.invariant.1.1

pub shape_of-path : goal.shape_of-path
shape_of-path c = c.loop-next.invariant.0 ∙ sym c.requires.3

pub shape_of-room : goal.shape_of-room
shape_of-room c = run_long c.loop-next.invariant.1.1

pub returns : goal.returns
returns c = run_end c.loop-next.invariant.1.1 (c.loop-next.invariant.1.2.none c.in_default.is) c.last_set-last-2.ensures (refl, refl, refl, refl, refl, refl)
