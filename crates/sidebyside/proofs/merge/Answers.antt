-- `sidebyside::merge` meets its contract. Assumes nothing.
use native.Mathlib.Omega.{arith}
use Rattle.sidebyside.proofs.Walking.{walk_inside}
use Rattle.sidebyside.proofs.Merging.{merge_start, merge_on}
use Rattle.sidebyside.proofs.merge.Goals as goal

pub loop-r-init : goal.loop-r-init
loop-r-init c = merge_start c.first_end.ensures c.first_end-2.ensures

pub returns-then-r-eq0 : goal.returns-then-r-eq0
returns-then-r-eq0 c =
    record {
      merging = c.loop-r.invariant;
      over = λ _. c.if-r-eq0.true;
    }

pub step-r-requires : goal.step-r-requires
step-r-requires c =
    record {
      merging = c.loop-r.invariant;
      e_nonzero = (c.loop-r-test.true, omega (arith, c.if-r-eq0.false));
    }

pub loop-r-smaller : goal.loop-r-smaller
loop-r-smaller c = let on = merge_on c.loop-r.invariant c.loop-r-test.true (omega (arith, c.if-r-eq0.false)) in let a = walk_inside c.step-r.ensures.merging_2.mine in let b = walk_inside c.step-r.ensures.merging_2.yours in omega (arith, c.step-r.ensures.on, on, a, b)

pub loop-r-preserved : goal.loop-r-preserved
loop-r-preserved c = c.step-r.ensures.merging_2

pub returns : goal.returns
returns c =
    record {
      merging = c.loop-r.invariant;
      over = λ h. absurd (omega (arith, h, c.loop-r-test.false));
    }
