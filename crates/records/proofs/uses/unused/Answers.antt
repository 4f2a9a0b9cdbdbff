-- `records::uses::unused` meets its contract.
-- Assumes nothing.
use mathlib.Core.Path.{sym, ◌∙◌}
use native.Mathlib.Omega.{arith}
use Rattle.records.proofs.Closing.{event_fits, unused_event, unused_gate, unused_none}
use Rattle.records.proofs.uses.unused.Goals as goal

pub overflow_mul-result : goal.overflow_mul-result
overflow_mul-result c = rw c.event_length.ensures (event_fits c.args.sited c.requires.few (rw c.in-Some.is at c.missing.ensures.1))

pub returns-in-Some : goal.returns-in-Some
returns-in-Some c = rw c.event_length.ensures (unused_event _ _ _ _ _ (sym c.missing.ensures.0 ∙ c.in-Some.is))

pub offset_bounds-places-g : goal.offset_bounds-places-g
offset_bounds-places-g c = omega (arith, c.requires, rw c.in_ok-g.was at c.missing-2.ensures.1)

pub bounds-places-g : goal.bounds-places-g
bounds-places-g c = omega (arith, c.requires, rw c.in_ok-g.was at c.missing-2.ensures.1)

pub returns-in_err-g : goal.returns-in_err-g
returns-in_err-g c = c.from_residual.ensures ∙ unused_none _ _ _ _ _ (sym c.missing.ensures.0 ∙ c.in_default.is) (sym c.missing-2.ensures.0 ∙ c.in_err-g.was)

pub returns : goal.returns
returns c = unused_gate _ _ _ _ _ (sym c.missing.ensures.0 ∙ c.in_default.is) (sym c.missing-2.ensures.0 ∙ c.in_ok-g.was)
