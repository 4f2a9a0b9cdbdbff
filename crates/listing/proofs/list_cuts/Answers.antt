-- `listing::list_cuts` meets its contract. Assumes nothing.
use mathlib.Core.Path.{refl, sym, ◌∙◌}
use native.Mathlib.Omega.{arith}
use Rattle.std.proofs.Common.{Some, None}
use mathlib.Core.List.{[]}
use lib.ListN.{take}
use Rattle.tables.specs.Table.{den}
use Rattle.walk.specs.Paths.{around}
use Rattle.walk.specs.After.{to_list}
use Rattle.walk.proofs.Paths.{open_start}
use Rattle.walk.proofs.Carry.{carries_none}
use Rattle.listing.proofs.Bytes.{carries_placed}
use Rattle.listing.proofs.Calls.{run_start, run_long, run_inside, run_end, short_inside, run_short, run_more, run_fits, run_less}
use Rattle.listing.proofs.Standing.{standing_start, standing_next}
use Rattle.listing.proofs.list_cuts.Goals as goal

pub start-next-requires : goal.start-next-requires
start-next-requires c = (open_start _ c.requires.0 refl, c.requires.1, carries_none _ _ c.empty-set.ensures)

pub loop-next-init : goal.loop-next-init
loop-next-init c =
    let l = to_list c.args.n (den c.args.nodes.now c.args.root) c.args.begin c.args.base in
    (c.start-next.auto.path, (l, run_start c.args.n l c.args.base c.args.room.now, standing_start _ _ _ _ _ _ _ l c.start-next.result c.start-next.ensures refl refl (omega arith)))

pub put_next-requires : goal.put_next-requires
put_next-requires c =
    let f = c.loop-next.invariant.1.2.some c.in-Some.step c.in-Some.is in
    let r = c.loop-next.invariant.1.1 in
    (f.carries.long, omega (arith, r.within, run_long r), f.ready.between, f.ready.counted, f.ready.spelled, f.ready.many)

pub returns-in_default-put_next : goal.returns-in_default-put_next
returns-in_default-put_next c =
    let f = c.loop-next.invariant.1.2.some c.in-Some.step c.in-Some.is in
    run_short c.loop-next.invariant.1.1 f.first (carries_placed f.path f.carries c.loop-next.room c.loop-next.used None c.put_next.new.room c.in_default-put_next.ensures.0) c.last_set-last.ensures c.stopped.ensures

pub advance-next-requires : goal.advance-next-requires
advance-next-requires c = let f = c.loop-next.invariant.1.2.some c.in-Some.step c.in-Some.is in (f.path, f.carries)

pub loop-next-smaller : goal.loop-next-smaller
loop-next-smaller c =
    let f = c.loop-next.invariant.1.2.some c.in-Some.step c.in-Some.is in
    run_less c.loop-next.invariant.1.1 f.first (carries_placed f.path f.carries c.loop-next.room c.loop-next.used (Some c.in-Some-put_next.w) c.put_next.new.room c.in-Some-put_next.ensures.0)

pub loop-next-preserved : goal.loop-next-preserved
loop-next-preserved c =
    let f = c.loop-next.invariant.1.2.some c.in-Some.step c.in-Some.is in
    let w = c.in-Some-put_next.ensures in (
      c.advance-next.auto.path ∙ c.loop-next.invariant.0,
      (
        around c.args.nodes.now (take c.in-Some.step.depth c.loop-next.path) [],
        run_more c.loop-next.invariant.1.1 f.first (carries_placed f.path f.carries c.loop-next.room c.loop-next.used (Some c.in-Some-put_next.w) c.put_next.new.room w.0) f.path refl,
        standing_next _ _ _ _ _ _ _ _ c.advance-next.result c.advance-next.ensures f.ready.between w.1 w.2 f.carries.long,
      ),
    )

pub returns : goal.returns
returns c = run_end c.loop-next.invariant.1.1 (c.loop-next.invariant.1.2.none c.in_default.is) c.last_set-last-2.ensures (refl, refl, refl, refl, refl, refl)
