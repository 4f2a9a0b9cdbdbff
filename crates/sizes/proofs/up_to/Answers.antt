-- `sizes::up_to` meets its contract. Assumes nothing.
use native.Mathlib.Omega.{arith}
use mathlib.Core.Path.{refl}
use Rattle.sizes.proofs.Totals.{totals_more, totals_end, totals_over}
use Rattle.sizes.proofs.up_to.Goals as goal

pub loop-k-init : goal.loop-k-init
loop-k-init c = (c.requires.root_in_bounds.0, c.requires.root_in_bounds.1, c.requires.root_in_bounds.2, c.requires.root_in_bounds.3, c.requires.last_value.2, c.requires.held.2)

pub one_size-requires : goal.one_size-requires
one_size-requires c =
    record {
      held = (c.requires.held.0, c.requires.held.1, c.loop-k.invariant.5);
      root_in_bounds = (c.loop-k.invariant.0, c.loop-k.invariant.1, c.loop-k.invariant.3);
    }

pub returns-in_err-one_size : goal.returns-in_err-one_size
returns-in_err-one_size c = rw c.from_residual.ensures (totals_over (c.one_size.ensures.over c.in_err-one_size.was))

pub loop-k-preserved : goal.loop-k-preserved
loop-k-preserved c =
    let fits = c.one_size.ensures.fits c.in_ok-one_size.was in
    let more = totals_more c.loop-k.invariant.4 (omega (arith, c.requires.last_value.1)) fits refl in
    (omega arith, c.loop-k.invariant.0, omega arith, c.loop-k.invariant.2, more, fits)

pub returns : goal.returns
returns c = totals_end (omega (arith, c.requires.last_value.0)) c.loop-k.invariant.4
