-- `changes::first_difference` meets its contract. Assumes nothing.
use native.Mathlib.Omega.{arith}
use mathlib.Core.Path.{refl}
use Rattle.std.specs.Prelude.{Some, None, Ok, Err}
use Rattle.sidebyside.specs.declared.Side.TheVariants.{Yesterday, Today}
use Rattle.changes.proofs.Stretches.{shows_low, shows_inside, shows_in}
use Rattle.changes.proofs.first_difference.Goals as goal

pub slice_bounds-result-count : goal.slice_bounds-result-count
slice_bounds-result-count c = omega (arith, shows_low (shows_in c.args.yesterday.now c.args.today.now c.in-Ok-Some.ensures c.in-Ok-Some.field-0-is c.in-Yesterday.is))

pub slice_bounds-result-start : goal.slice_bounds-result-start
slice_bounds-result-start c = shows_low (shows_in c.args.yesterday.now c.args.today.now c.in-Ok-Some.ensures c.in-Ok-Some.field-0-is c.in-Yesterday.is)

pub slice_bounds-result-end : goal.slice_bounds-result-end
slice_bounds-result-end c = shows_inside (shows_in c.args.yesterday.now c.args.today.now c.in-Ok-Some.ensures c.in-Ok-Some.field-0-is c.in-Yesterday.is)

pub slice_bounds-result-count-in-Today : goal.slice_bounds-result-count-in-Today
slice_bounds-result-count-in-Today c = omega (arith, shows_low (shows_in c.args.yesterday.now c.args.today.now c.in-Ok-Some.ensures c.in-Ok-Some.field-0-is c.in-Today.is))

pub slice_bounds-result-start-in-Today : goal.slice_bounds-result-start-in-Today
slice_bounds-result-start-in-Today c = shows_low (shows_in c.args.yesterday.now c.args.today.now c.in-Ok-Some.ensures c.in-Ok-Some.field-0-is c.in-Today.is)

pub slice_bounds-result-end-in-Today : goal.slice_bounds-result-end-in-Today
slice_bounds-result-end-in-Today c = shows_inside (shows_in c.args.yesterday.now c.args.today.now c.in-Ok-Some.ensures c.in-Ok-Some.field-0-is c.in-Today.is)

pub returns-in-Yesterday : goal.returns-in-Yesterday
returns-in-Yesterday c = record { side = Ok (Some Yesterday); sides = (_, _, shows_in c.args.yesterday.now c.args.today.now c.in-Ok-Some.ensures c.in-Ok-Some.field-0-is c.in-Yesterday.is); is = record { start = _; end = _; shows = shows_in c.args.yesterday.now c.args.today.now c.in-Ok-Some.ensures c.in-Ok-Some.field-0-is c.in-Yesterday.is; is = refl } }

pub returns-in-Today : goal.returns-in-Today
returns-in-Today c = record { side = Ok (Some Today); sides = (_, _, shows_in c.args.yesterday.now c.args.today.now c.in-Ok-Some.ensures c.in-Ok-Some.field-0-is c.in-Today.is); is = record { start = _; end = _; shows = shows_in c.args.yesterday.now c.args.today.now c.in-Ok-Some.ensures c.in-Ok-Some.field-0-is c.in-Today.is; is = refl } }

pub returns-in-Ok-None : goal.returns-in-Ok-None
returns-in-Ok-None c = record { side = Ok None; sides = rw c.in-Ok-None.field-0-is at c.in-Ok-None.ensures; is = refl }

pub returns-in-Err : goal.returns-in-Err
returns-in-Err c = record { side = Err _; sides = c.in-Err.ensures; is = refl }
