-- `atleast::take_input`
use mathlib.Core.Path.{◌≡◌}
use Prim.Native.Nat.{◌+◌, ◌-◌}
use native.Mathlib.Omega.{arith}
use Rattle.std.proofs.lemmas.Result.{err_from_is_err_and}
use Rattle.atleast.proofs.Taking.{pairing_start, x_here, less_in, more_in, pairing_next, pairing_short, pairing_end}
use Rattle.atleast.proofs.take_input.Goals as goal

pub loop-j-init : goal.loop-j-init
loop-j-init c =
    let high = c.highest-high.result in
    let e : high + 1 - 1 ≡ high = omega arith in rw e (pairing_start c.requires.held c.requires.within c.requires.reached c.highest-high.ensures)

pub returns-in_err-b : goal.returns-in_err-b
returns-in_err-b c =
    let e = err_from_is_err_and c.from_residual.result c.from_residual.ensures.1 in
    rw (e.1, e.2) (pairing_short c.loop-j.invariant c.lowest-low.ensures (omega arith) c.in_err-b.ensures)

pub loop-j-preserved : goal.loop-j-preserved
loop-j-preserved c =
    pairing_next c.loop-j.invariant c.lowest-low.ensures (omega arith) c.requires.k_le_inputs c.in_ok-b.ensures

pub returns : goal.returns
returns c = pairing_end c.loop-j.invariant c.lowest-low.ensures (omega arith)
