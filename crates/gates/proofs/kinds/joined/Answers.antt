-- `gates::kinds::joined`
use Prim.Native.Nat.{◌-◌}
use Rattle.std.proofs.lemmas.Result.{err_from_is_err_and}
use Rattle.gates.proofs.Folding.{joining_start, joining_ready, joining_next, joining_short, joining_end}
use Rattle.gates.proofs.kinds.joined.Goals as goal

pub loop-i-init : goal.loop-i-init
loop-i-init c = joining_start _ c.requires.held c.requires.within c.requires.in_bounds

pub returns-in_err-b : goal.returns-in_err-b
returns-in_err-b c =
    let e = err_from_is_err_and c.from_residual.result c.from_residual.ensures.1 in
    rw (e.1, e.2) (joining_short c.loop-i.invariant c.loop-i-test.true c.in_err-b.ensures)

pub loop-i-preserved : goal.loop-i-preserved
loop-i-preserved c = joining_next c.loop-i.invariant c.loop-i-test.true c.in_ok-b.ensures

pub returns : goal.returns
returns c = joining_end c.loop-i.invariant c.loop-i-test.false
