-- `moves::from_sites` meets its contract.
-- Assumes nothing.
use mathlib.Core.Path.{refl, sym, ◌∙◌}
use native.Mathlib.Omega.{arith}
use Rattle.records.proofs.Closing.{passed_on}
use Rattle.moves.proofs.Moving.{few_events, from_refused, from_done, from_sited}
use Rattle.moves.proofs.from_sites.Goals as goal

pub first_site-requires : goal.first_site-requires
first_site-requires c = few_events c.args.bytes.now (sym c.in_ok-t.was ∙ c.read.ensures.whole)

pub overflow_mul-result : goal.overflow_mul-result
overflow_mul-result c = rw c.length.ensures (record { fits = omega (arith, few_events c.args.bytes.now (sym c.in_ok-t.was ∙ c.read.ensures.whole), rw c.in-Some.is at c.first_site.ensures.1) })

pub returns-in-Some : goal.returns-in-Some
returns-in-Some c = from_sited c.args.bytes.now (sym c.in_ok-t.was ∙ c.read.ensures.whole) c.args.room.now (sym c.in-Some.is ∙ c.first_site.ensures.0) c.length.ensures refl

pub returns : goal.returns
returns c = from_done c.args.bytes.now (sym c.in_ok-t.was ∙ c.read.ensures.whole) c.args.room.now (sym c.in_default.is ∙ c.first_site.ensures.0) c.write.ensures

pub returns-in_err-t : goal.returns-in_err-t
returns-in_err-t c = rw (passed_on c.from_residual.ensures.1) (from_refused c.args.bytes.now (sym c.in_err-t.was ∙ c.read.ensures.whole) c.args.room.now)
