-- `equations::showing::show` meets its contract. Assumes nothing.
use native.Mathlib.Omega.{arith}
use mathlib.Core.Path.{refl}
use Rattle.equations.proofs.Shown.{names_none, name_low, name_there, names_other, names_room, names_next}
use Rattle.equations.proofs.showing.show.Goals as goal

pub loop-i-init : goal.loop-i-init
loop-i-init c = names_none c.args.starts.now c.args.inputs.now c.args.order.now c.args.names.now c.args.events c.args.shown.now c.args.from

pub is_event-requires-clause-x_lt_count : goal.is_event-requires-clause-x_lt_count
is_event-requires-clause-x_lt_count c = name_low c.requires c.loop-i.invariant c.loop-i-test.true refl

pub loop-i-preserved-then-is_event-events : goal.loop-i-preserved-then-is_event-events
loop-i-preserved-then-is_event-events c = names_other c.requires c.loop-i.invariant c.loop-i-test.true refl c.is_event.ensures c.if-is_event-events.true

pub bounds-names-x : goal.bounds-names-x
bounds-names-x c = name_there c.requires c.loop-i.invariant c.loop-i-test.true refl

pub offset_bounds-shown-u : goal.offset_bounds-shown-u
offset_bounds-shown-u c = omega (arith, names_room c.requires c.loop-i.invariant c.loop-i-test.true refl c.is_event.ensures c.if-is_event-events.false)

pub bounds-shown-u : goal.bounds-shown-u
bounds-shown-u c = names_room c.requires c.loop-i.invariant c.loop-i-test.true refl c.is_event.ensures c.if-is_event-events.false

pub overflow_add-u : goal.overflow_add-u
overflow_add-u c = omega (arith, names_room c.requires c.loop-i.invariant c.loop-i-test.true refl c.is_event.ensures c.if-is_event-events.false)

pub loop-i-preserved : goal.loop-i-preserved
loop-i-preserved c = names_next c.requires c.loop-i.invariant c.loop-i-test.true refl c.is_event.ensures c.if-is_event-events.false
