-- `sizes::mark` meets its contract. Assumes nothing.
use native.Mathlib.Omega.{arith}
use mathlib.Core.Path.{◌≡◌}
use Prim.Native.Nat.{◌+◌, ◌-◌}
use lib.ListN.{length, replicate}
use borrow.Author.Rules.{rules}
use Rattle.cuts.proofs.Marks.{marking_cleared, marking_held, marking_step, marking_end}
use Rattle.sizes.proofs.mark.Goals as goal

pub loop-i-init : goal.loop-i-init
loop-i-init c =
    let top : c.args.root + 1 - 1 ≡ c.args.root = omega arith in
    let cleared : c.fill.new.self ≡ replicate (length c.args.marks.now) 0 = search rules in
    rw top (marking_cleared cleared c.requires.root_in_bounds)

pub mark_branches-requires : goal.mark_branches-requires
mark_branches-requires c = record { held = marking_held c.requires.held c.loop-i.invariant (omega arith); le_i = omega arith; i_in_bounds = omega arith }

pub loop-i-preserved : goal.loop-i-preserved
loop-i-preserved c = marking_step c.requires.held c.loop-i.invariant (omega arith) c.mark_branches.auto.marks c.mark_branches.ensures

pub returns : goal.returns
returns c = marking_end c.loop-i.invariant (omega arith)
