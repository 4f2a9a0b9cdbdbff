-- `gates::inputs::input_nodes`
use Prim.Native.Nat.{◌-◌}
use native.Mathlib.Omega.{arith}
use Rattle.std.proofs.lemmas.Result.{err_from_is_err_and}
use Rattle.gates.proofs.Rows.{lining_start, lining_within, lining_next, lining_short, lining_end}
use Rattle.gates.proofs.inputs.input_nodes.Goals as goal

pub returns-in_err-b : goal.returns-in_err-b
returns-in_err-b c =
    let e = err_from_is_err_and c.from_residual.result c.from_residual.ensures.1 in
    rw (e.1, e.2) (lining_short c.loop-i.invariant c.loop-i-test.true c.in_err-b.ensures)

pub loop-i-preserved : goal.loop-i-preserved
loop-i-preserved c = lining_next c.loop-i.invariant c.loop-i-test.true c.requires.own.few c.in_ok-b.ensures

pub returns : goal.returns
returns c = lining_end c.loop-i.invariant c.loop-i-test.false
