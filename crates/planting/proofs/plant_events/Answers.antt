-- `planting::plant_events` meets its contract. Assumes nothing.
use native.Mathlib.Omega.{arith}
use mathlib.Core.Path.{refl}
use Rattle.std.proofs.lemmas.Result.{err_from_is_err_and}
use Rattle.records.specs.Memory.{pad}
use Rattle.planting.proofs.Sowing.{sown_none, sown_low, sown_gate, sown_broken, sown_few, sown_event}
use Rattle.planting.proofs.plant_events.Goals as goal

pub loop-i-init : goal.loop-i-init
unfolding pad
loop-i-init c = sown_none c.requires

pub is_event-requires-clause-x_lt_count : goal.is_event-requires-clause-x_lt_count
is_event-requires-clause-x_lt_count c = sown_low c.requires c.loop-i-test.true refl

pub loop-i-preserved-then-not-is_event : goal.loop-i-preserved-then-not-is_event
loop-i-preserved-then-not-is_event c = sown_gate c.requires c.loop-i-test.true refl c.loop-i.invariant c.is_event.ensures c.if-not-is_event.true

pub bounds-chances-x : goal.bounds-chances-x
bounds-chances-x c = omega (arith, sown_low c.requires c.loop-i-test.true refl, c.requires.chances)

pub returns-in_err-check_event : goal.returns-in_err-check_event
returns-in_err-check_event c =
    let p = err_from_is_err_and c.from_residual.result c.from_residual.ensures.1 in
    let h = rw c.in_err-check_event.was at c.check_event.ensures in
    rw (p.1, p.2) (sown_broken c.requires c.loop-i-test.true refl c.loop-i.invariant c.is_event.ensures c.if-not-is_event.false h _ refl)

pub offset_bounds-events-e : goal.offset_bounds-events-e
offset_bounds-events-e c = omega (arith, sown_few c.requires c.loop-i-test.true refl c.loop-i.invariant c.is_event.ensures c.if-not-is_event.false (rw c.in_ok-check_event.was at c.check_event.ensures) (omega arith))

pub bounds-events-e : goal.bounds-events-e
bounds-events-e c = sown_few c.requires c.loop-i-test.true refl c.loop-i.invariant c.is_event.ensures c.if-not-is_event.false (rw c.in_ok-check_event.was at c.check_event.ensures) (omega arith)

pub overflow_add-e : goal.overflow_add-e
overflow_add-e c = omega (arith, sown_few c.requires c.loop-i-test.true refl c.loop-i.invariant c.is_event.ensures c.if-not-is_event.false (rw c.in_ok-check_event.was at c.check_event.ensures) (omega arith))

pub loop-i-preserved : goal.loop-i-preserved
loop-i-preserved c = sown_event c.requires c.loop-i-test.true refl c.loop-i.invariant c.is_event.ensures c.if-not-is_event.false (rw c.in_ok-check_event.was at c.check_event.ensures) (omega arith)
