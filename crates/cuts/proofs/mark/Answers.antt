-- The invariant: only what is reached is marked, the root is, and so are the branches of each marked node from i on. Assumes nothing.
use mathlib.Core.Path.{◌≡◌}
use Prim.Native.Nat.{◌+◌, ◌-◌}
use native.Mathlib.Omega.{arith}
use Rattle.cuts.proofs.Marks.{marking_cleared, marking_held, marking_step, marking_end}
use Rattle.cuts.proofs.mark.Goals as goal

pub loop-i-init : goal.loop-i-init
loop-i-init c =
    let root = c.args.root in
    let e : root + 1 - 1 ≡ root = omega arith in rw e (marking_cleared (c.fill.ensures.after (λ _ e. e)) c.requires.root_in_bounds)

pub loop-i-preserved : goal.loop-i-preserved
loop-i-preserved c = marking_step c.requires.held c.loop-i.invariant (omega arith) c.mark_branches.auto.marks c.mark_branches.ensures

pub returns : goal.returns
returns c = marking_end c.loop-i.invariant (omega arith)
