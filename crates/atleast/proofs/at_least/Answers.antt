-- `atleast::at_least`
use native.Mathlib.Omega.{arith}
use Rattle.std.proofs.lemmas.Result.{err_from_is_err_and}
use Rattle.atleast.proofs.Taking.{stage_first, stage_within, stage_ready, stage_next, stage_short, stage_end}
use Rattle.atleast.proofs.at_least.Goals as goal

pub loop-i-init : goal.loop-i-init
loop-i-init c = stage_first c.requires.held c.requires.within

pub take_input-requires : goal.take_input-requires
take_input-requires c =
    record {
      held = c.loop-i.invariant.taken.held;
      within = stage_within c.loop-i.invariant;
      i_in_bounds = omega (arith, c.loop-i.invariant.high, c.loop-i-test.true);
      k_le_inputs = c.requires.k_le_inputs;
      reached = stage_ready c.loop-i.invariant c.loop-i-test.true;
    }

pub loop-i-preserved : goal.loop-i-preserved
loop-i-preserved c =
    stage_next c.loop-i.invariant c.loop-i-test.true c.in_ok-used.ensures

pub returns-in_err-used : goal.returns-in_err-used
returns-in_err-used c =
    let e = err_from_is_err_and c.from_residual.result c.from_residual.ensures.1 in
    rw (e.1, e.2) (stage_short c.loop-i.invariant c.loop-i-test.true c.in_err-used.ensures)

pub returns : goal.returns
returns c = stage_end c.loop-i.invariant c.loop-i-test.false
