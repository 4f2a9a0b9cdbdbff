-- `planting::plant_gates` meets its contract. Assumes nothing.
use native.Mathlib.Omega.{arith}
use mathlib.Core.Path.{refl}
use Rattle.std.proofs.lemmas.Result.{err_from_is_err_and}
use Rattle.records.specs.Memory.{pad}
use Rattle.planting.proofs.Growing.{grown_none, grown_low, grown_event, grown_kind, grown_sortable, grown_room, grown_broken, grown_few, grown_small, grown_fits, grown_least, grown_putable, grown_gate, grown_all}
use Rattle.planting.proofs.plant_gates.Goals as goal

pub loop-i-init : goal.loop-i-init
unfolding pad
loop-i-init c = grown_none c.requires.plantable

pub size-n-requires-clause-x_lt_count : goal.size-n-requires-clause-x_lt_count
size-n-requires-clause-x_lt_count c = grown_low c.requires.plantable c.loop-i-test.true refl

pub loop-i-preserved-then-n-eq0 : goal.loop-i-preserved-then-n-eq0
loop-i-preserved-then-n-eq0 c = grown_event c.requires.plantable c.loop-i-test.true refl c.loop-i.invariant c.size-n.ensures (omega (arith, c.if-n-eq0.true))

pub bounds-kinds-x : goal.bounds-kinds-x
bounds-kinds-x c = omega (arith, grown_low c.requires.plantable c.loop-i-test.true refl, c.requires.plantable.kinds)

pub bounds-leasts-x : goal.bounds-leasts-x
bounds-leasts-x c = omega (arith, grown_low c.requires.plantable c.loop-i-test.true refl, c.requires.plantable.leasts)

pub distinct_inputs-d-requires : goal.distinct_inputs-d-requires
distinct_inputs-d-requires c = grown_sortable c.requires.plantable c.loop-i-test.true refl c.loop-i.invariant c.size-n.ensures (omega (arith, c.if-n-eq0.false)) c.requires.order_len_bound

pub check_gate-requires : goal.check_gate-requires
check_gate-requires c = grown_room c.loop-i.invariant

pub returns-in_err-check_gate : goal.returns-in_err-check_gate
returns-in_err-check_gate c =
    let p = err_from_is_err_and c.from_residual.result c.from_residual.ensures.1 in
    let h = rw c.in_err-check_gate.was at c.check_gate.ensures in
    rw (p.1, p.2) (grown_broken c.requires.plantable c.loop-i-test.true refl c.loop-i.invariant c.size-n.ensures (omega (arith, c.if-n-eq0.false)) c.distinct_inputs-d.ensures h _ refl c.args.sown)

pub overflow_cast-ks : goal.overflow_cast-ks
overflow_cast-ks c = omega (arith, (grown_kind c.requires.plantable c.loop-i-test.true refl c.loop-i.invariant c.size-n.ensures (omega (arith, c.if-n-eq0.false))).1)

pub bounds-ks-g : goal.bounds-ks-g
bounds-ks-g c = grown_few c.requires.plantable c.loop-i-test.true refl c.loop-i.invariant c.size-n.ensures (omega (arith, c.if-n-eq0.false)) c.distinct_inputs-d.ensures (rw c.in_ok-check_gate.was at c.check_gate.ensures) (omega arith)

pub least-requires-clause-le_kind : goal.least-requires-clause-le_kind
least-requires-clause-le_kind c = grown_kind c.requires.plantable c.loop-i-test.true refl c.loop-i.invariant c.size-n.ensures (omega (arith, c.if-n-eq0.false))

pub least-requires-clause-k_le_inputs : goal.least-requires-clause-k_le_inputs
least-requires-clause-k_le_inputs c = grown_least c.requires.plantable c.loop-i-test.true refl c.loop-i.invariant c.size-n.ensures (omega (arith, c.if-n-eq0.false)) c.distinct_inputs-d.ensures (rw c.in_ok-check_gate.was at c.check_gate.ensures) (omega arith)

pub bounds-ls-g : goal.bounds-ls-g
bounds-ls-g c = grown_few c.requires.plantable c.loop-i-test.true refl c.loop-i.invariant c.size-n.ensures (omega (arith, c.if-n-eq0.false)) c.distinct_inputs-d.ensures (rw c.in_ok-check_gate.was at c.check_gate.ensures) (omega arith)

pub overflow_cast-ns : goal.overflow_cast-ns
overflow_cast-ns c = omega (arith, grown_small c.requires.plantable c.loop-i-test.true refl c.loop-i.invariant c.size-n.ensures (omega (arith, c.if-n-eq0.false)) c.distinct_inputs-d.ensures (rw c.in_ok-check_gate.was at c.check_gate.ensures) (omega arith))

pub bounds-ns-g : goal.bounds-ns-g
bounds-ns-g c = grown_few c.requires.plantable c.loop-i-test.true refl c.loop-i.invariant c.size-n.ensures (omega (arith, c.if-n-eq0.false)) c.distinct_inputs-d.ensures (rw c.in_ok-check_gate.was at c.check_gate.ensures) (omega arith)

pub put_inputs-requires : goal.put_inputs-requires
put_inputs-requires c = grown_putable c.requires.plantable c.loop-i-test.true refl c.loop-i.invariant c.size-n.ensures (omega (arith, c.if-n-eq0.false)) c.distinct_inputs-d.ensures (rw c.in_ok-check_gate.was at c.check_gate.ensures) (omega arith) c.requires.order_len_bound

pub overflow_add-g : goal.overflow_add-g
overflow_add-g c = omega (arith, grown_few c.requires.plantable c.loop-i-test.true refl c.loop-i.invariant c.size-n.ensures (omega (arith, c.if-n-eq0.false)) c.distinct_inputs-d.ensures (rw c.in_ok-check_gate.was at c.check_gate.ensures) (omega arith))

pub overflow_add-used : goal.overflow_add-used
overflow_add-used c = omega (arith, grown_fits c.requires.plantable c.loop-i-test.true refl c.loop-i.invariant c.size-n.ensures (omega (arith, c.if-n-eq0.false)) c.distinct_inputs-d.ensures (rw c.in_ok-check_gate.was at c.check_gate.ensures) (omega arith))

pub loop-i-preserved : goal.loop-i-preserved
loop-i-preserved c = grown_gate c.requires.plantable c.loop-i-test.true refl c.loop-i.invariant c.size-n.ensures (omega (arith, c.if-n-eq0.false)) c.distinct_inputs-d.ensures (rw c.in_ok-check_gate.was at c.check_gate.ensures) (omega arith) c.least.ensures c.put_inputs.ensures

pub returns : goal.returns
returns c = grown_all c.requires.plantable c.loop-i.auto.i-end c.loop-i-test.false c.loop-i.invariant c.args.sown
