-- The proof of the recursion. The sum of the two numbers falls, so it ends, whatever the memo holds.
-- Assumes nothing.
use mathlib.Core.Path.{refl, ◌∙◌}
use native.Mathlib.Omega.{arith}
use Rattle.std.proofs.lemmas.Result.{err_from_is_err_and}
use Rattle.store.proofs.Memory.{place_kept}
use Rattle.joins.specs.Joins.{Joined}
use Rattle.joins.proofs.Recursion.{known, joined_is, half_1, half_now, ready_1, short_1, ready_0, short_0, in_1, in_0, all}
use Rattle.joins.proofs.+join_nodes.Goals.{in-Node, in-Unknown+in_ok-a-in-Unknown, in-Node-ask, in-Unknown-ask+in_ok-b-in-Unknown-ask}
use Rattle.joins.proofs.+join_nodes.Goals as goal

pub returns-in_err-a-in-Unknown : goal.returns-in_err-a-in-Unknown
returns-in_err-a-in-Unknown t c =
    let e = err_from_is_err_and c.from_residual.result c.from_residual.ensures.1 in
    rw (e.1, e.2) (short_1 c.requires.ready c.take_apart-p.ensures c.in_err-a-in-Unknown.ensures)

pub join_nodes-requires-in-Unknown-ask : goal.join_nodes-requires-in-Unknown-ask
join_nodes-requires-in-Unknown-ask t c =
    let rd = c.requires.ready in
    let pt = c.take_apart-p.ensures in
    let m = c.match-ask in
    let a : Joined c.args.nodes.now c.args.memo.now c.args.count (half_1 rd pt) m.nodes m.heads m.next m.memo m.a.count m.a.node = elim c.match-ask.branch [
      | in-Node w ↦ joined_is w.nodes-is w.heads-is w.next-is w.memo-is w.a-is (known (ready_1 rd pt) w.in-Node.ensures)
      | in-Unknown+in_ok-a-in-Unknown w ↦ joined_is w.nodes-is w.heads-is w.next-is w.memo-is w.a-is w.in_ok-a-in-Unknown.ensures
    ] in
    let k = c.in-Unknown-ask.ensures in
    (let x = pt.less_0 in let y = c.decreases in omega arith, (ready_0 rd pt a, (k.node, (pt.order_0, k.place))))

pub returns-in_err-b-in-Unknown-ask : goal.returns-in_err-b-in-Unknown-ask
returns-in_err-b-in-Unknown-ask t c =
    let rd = c.requires.ready in
    let pt = c.take_apart-p.ensures in
    let m = c.match-ask in
    let a : Joined c.args.nodes.now c.args.memo.now c.args.count (half_1 rd pt) m.nodes m.heads m.next m.memo m.a.count m.a.node = elim c.match-ask.branch [
      | in-Node w ↦ joined_is w.nodes-is w.heads-is w.next-is w.memo-is w.a-is (known (ready_1 rd pt) w.in-Node.ensures)
      | in-Unknown+in_ok-a-in-Unknown w ↦ joined_is w.nodes-is w.heads-is w.next-is w.memo-is w.a-is w.in_ok-a-in-Unknown.ensures
    ] in
    let e = err_from_is_err_and c.from_residual-in_err-b-in-Unknown-ask.result c.from_residual-in_err-b-in-Unknown-ask.ensures.1 in
    rw (e.1, e.2) (short_0 rd pt a c.in_err-b-in-Unknown-ask.ensures)

pub finish-requires : goal.finish-requires
finish-requires t c =
    let rd = c.requires.ready in
    let pt = c.take_apart-p.ensures in
    let m = c.match-ask in
    let a : Joined c.args.nodes.now c.args.memo.now c.args.count (half_1 rd pt) m.nodes m.heads m.next m.memo m.a.count m.a.node = elim c.match-ask.branch [
      | in-Node w ↦ joined_is w.nodes-is w.heads-is w.next-is w.memo-is w.a-is (known (ready_1 rd pt) w.in-Node.ensures)
      | in-Unknown+in_ok-a-in-Unknown w ↦ joined_is w.nodes-is w.heads-is w.next-is w.memo-is w.a-is w.in_ok-a-in-Unknown.ensures
    ] in
    let n = c.match-ask-2 in
    let b : Joined m.nodes m.memo m.a.count (half_now rd pt a) n.nodes n.heads n.next n.memo n.b.count n.b.node = elim c.match-ask-2.branch [
      | in-Node-ask w ↦ joined_is w.nodes-is w.heads-is w.next-is w.memo-is w.b-is (known (ready_0 rd pt a) w.in-Node-ask.ensures)
      | in-Unknown-ask+in_ok-b-in-Unknown-ask w ↦ joined_is w.nodes-is w.heads-is w.next-is w.memo-is w.b-is w.in_ok-b-in-Unknown-ask.ensures
    ] in
    record {
      store = b.makes.step.store;
      failed_bound = in_1 rd pt a b;
      sound_bound = in_0 rd pt a b;
      place = place_kept (n.auto.memo ∙ m.auto.memo) c.requires.place;
    }

pub returns : goal.returns
returns t c =
    let rd = c.requires.ready in
    let pt = c.take_apart-p.ensures in
    let m = c.match-ask in
    let a : Joined c.args.nodes.now c.args.memo.now c.args.count (half_1 rd pt) m.nodes m.heads m.next m.memo m.a.count m.a.node = elim c.match-ask.branch [
      | in-Node w ↦ joined_is w.nodes-is w.heads-is w.next-is w.memo-is w.a-is (known (ready_1 rd pt) w.in-Node.ensures)
      | in-Unknown+in_ok-a-in-Unknown w ↦ joined_is w.nodes-is w.heads-is w.next-is w.memo-is w.a-is w.in_ok-a-in-Unknown.ensures
    ] in
    let n = c.match-ask-2 in
    let b : Joined m.nodes m.memo m.a.count (half_now rd pt a) n.nodes n.heads n.next n.memo n.b.count n.b.node = elim c.match-ask-2.branch [
      | in-Node-ask w ↦ joined_is w.nodes-is w.heads-is w.next-is w.memo-is w.b-is (known (ready_0 rd pt a) w.in-Node-ask.ensures)
      | in-Unknown-ask+in_ok-b-in-Unknown-ask w ↦ joined_is w.nodes-is w.heads-is w.next-is w.memo-is w.b-is w.in_ok-b-in-Unknown-ask.ensures
    ] in
    all rd pt a b c.finish.new.nodes c.finish.new.heads c.finish.new.next c.finish.new.memo c.finish.result (c.finish.ensures.function refl)
