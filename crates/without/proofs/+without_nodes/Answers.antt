-- The cycle of calls {without_nodes}: both diagrams are taken apart at the earlier of their top events. The measure is the events that remain
-- below the higher of the two top nodes. Assumes nothing.
use mathlib.Core.Path.{refl, ◌∙◌}
use Rattle.std.proofs.lemmas.Result.{err_from_is_err_and}
use Rattle.store.proofs.Memory.{place_kept}
use Rattle.without.specs.Without.{Taken}
use Rattle.without.proofs.Recursion.{taken_here, taken_is, A, B₁, ready_1, less_1, short_1, ready_2, less_2, short_2, store_2, hi_in, lo_in, finished}
use Rattle.without.proofs.+without_nodes.Goals.{in-Node, in-Unknown+in_ok-a-in-Unknown, in-Node-ask, in-Unknown-ask+in_ok-b-in-Unknown-ask}
use Rattle.without.proofs.+without_nodes.Goals as goal

pub without_nodes-requires : goal.without_nodes-requires
without_nodes-requires t c =
    let rd = c.requires.ready in
    (less_1 rd c.take_apart-p.ensures c.decreases, (ready_1 rd c.take_apart-p.ensures, c.in-Unknown.ensures))

pub returns-in_err-a-in-Unknown : goal.returns-in_err-a-in-Unknown
returns-in_err-a-in-Unknown t c =
    let e = err_from_is_err_and c.from_residual.result c.from_residual.ensures.1 in
    rw (e.1, e.2) (short_1 c.requires.ready c.take_apart-p.ensures c.in_err-a-in-Unknown.ensures)

pub without_nodes-requires-in-Unknown-ask : goal.without_nodes-requires-in-Unknown-ask
without_nodes-requires-in-Unknown-ask t c =
    let rd = c.requires.ready in
    let pt = c.take_apart-p.ensures in
    let m = c.match-ask in
    let a : Taken c.args.cut.now c.args.count c.args.nodes.now (A rd pt) m.cut m.heads m.next m.memo m.a.count m.a.node = elim c.match-ask.branch [
      | in-Node w ↦ taken_is w.cut-is w.heads-is w.next-is w.memo-is w.a-is (taken_here (ready_1 rd pt) w.in-Node.ensures)
      | in-Unknown+in_ok-a-in-Unknown w ↦ taken_is w.cut-is w.heads-is w.next-is w.memo-is w.a-is w.in_ok-a-in-Unknown.ensures
    ] in
    (less_2 rd pt a c.decreases, (ready_2 rd pt a, c.in-Unknown-ask.ensures))

pub returns-in_err-b-in-Unknown-ask : goal.returns-in_err-b-in-Unknown-ask
returns-in_err-b-in-Unknown-ask t c =
    let rd = c.requires.ready in
    let pt = c.take_apart-p.ensures in
    let m = c.match-ask in
    let a : Taken c.args.cut.now c.args.count c.args.nodes.now (A rd pt) m.cut m.heads m.next m.memo m.a.count m.a.node = elim c.match-ask.branch [
      | in-Node w ↦ taken_is w.cut-is w.heads-is w.next-is w.memo-is w.a-is (taken_here (ready_1 rd pt) w.in-Node.ensures)
      | in-Unknown+in_ok-a-in-Unknown w ↦ taken_is w.cut-is w.heads-is w.next-is w.memo-is w.a-is w.in_ok-a-in-Unknown.ensures
    ] in
    let e = err_from_is_err_and c.from_residual-in_err-b-in-Unknown-ask.result c.from_residual-in_err-b-in-Unknown-ask.ensures.1 in
    rw (e.1, e.2) (short_2 rd pt a c.in_err-b-in-Unknown-ask.ensures)

pub finish-requires : goal.finish-requires
finish-requires t c =
    let rd = c.requires.ready in
    let pt = c.take_apart-p.ensures in
    let m = c.match-ask in
    let a : Taken c.args.cut.now c.args.count c.args.nodes.now (A rd pt) m.cut m.heads m.next m.memo m.a.count m.a.node = elim c.match-ask.branch [
      | in-Node w ↦ taken_is w.cut-is w.heads-is w.next-is w.memo-is w.a-is (taken_here (ready_1 rd pt) w.in-Node.ensures)
      | in-Unknown+in_ok-a-in-Unknown w ↦ taken_is w.cut-is w.heads-is w.next-is w.memo-is w.a-is w.in_ok-a-in-Unknown.ensures
    ] in
    let n = c.match-ask-2 in
    let b : Taken m.cut m.a.count c.args.nodes.now (B₁ rd pt a) n.cut n.heads n.next n.memo n.b.count n.b.node = elim c.match-ask-2.branch [
      | in-Node-ask w ↦ taken_is w.cut-is w.heads-is w.next-is w.memo-is w.b-is (taken_here (ready_2 rd pt a) w.in-Node-ask.ensures)
      | in-Unknown-ask+in_ok-b-in-Unknown-ask w ↦ taken_is w.cut-is w.heads-is w.next-is w.memo-is w.b-is w.in_ok-b-in-Unknown-ask.ensures
    ] in
    record {
      store = store_2 rd pt a b;
      failed_bound = hi_in rd pt a b;
      sound_bound = lo_in rd pt a b;
      place = place_kept (n.auto.memo ∙ m.auto.memo) c.requires.missed.place;
    }

pub returns : goal.returns
returns t c =
    let rd = c.requires.ready in
    let pt = c.take_apart-p.ensures in
    let m = c.match-ask in
    let a : Taken c.args.cut.now c.args.count c.args.nodes.now (A rd pt) m.cut m.heads m.next m.memo m.a.count m.a.node = elim c.match-ask.branch [
      | in-Node w ↦ taken_is w.cut-is w.heads-is w.next-is w.memo-is w.a-is (taken_here (ready_1 rd pt) w.in-Node.ensures)
      | in-Unknown+in_ok-a-in-Unknown w ↦ taken_is w.cut-is w.heads-is w.next-is w.memo-is w.a-is w.in_ok-a-in-Unknown.ensures
    ] in
    let n = c.match-ask-2 in
    let b : Taken m.cut m.a.count c.args.nodes.now (B₁ rd pt a) n.cut n.heads n.next n.memo n.b.count n.b.node = elim c.match-ask-2.branch [
      | in-Node-ask w ↦ taken_is w.cut-is w.heads-is w.next-is w.memo-is w.b-is (taken_here (ready_2 rd pt a) w.in-Node-ask.ensures)
      | in-Unknown-ask+in_ok-b-in-Unknown-ask w ↦ taken_is w.cut-is w.heads-is w.next-is w.memo-is w.b-is w.in_ok-b-in-Unknown-ask.ensures
    ] in
    finished rd pt a b c.finish.new.nodes c.finish.new.heads c.finish.new.next c.finish.new.memo c.finish.result (c.finish.ensures.family refl)
