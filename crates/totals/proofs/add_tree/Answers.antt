-- `totals::add_tree` meets its contract. Assumes nothing.
use mathlib.Core.Path.{◌≡◌}
use native.Mathlib.Omega.{arith}
use lib.ListN.{length-replicate}
use borrow.Author.Rules.{rules}
use Rattle.paper.specs.Refusals.{number_of}
use Rattle.paper.proofs.Refusals.{number_above}
use Rattle.totals.proofs.Adding.{areas_enough, ok_number, due_still, due_own, due_added}
use Rattle.totals.proofs.add_tree.Goals as goal

pub returns-in_err-before : goal.returns-in_err-before
returns-in_err-before c = rw c.from_residual.ensures (due_still c.in_err-before.was)

pub returns-in_err-ok : goal.returns-in_err-ok
returns-in_err-ok c =
    let refused : number_of c.sizes.result ≡ 0 → ⊥ = search (rules, number_above) in
    rw c.from_residual-in_err-ok.ensures (due_own c.requires.0 (areas_enough c.requires.1 (simp length-replicate (omega arith))) c.sizes.ensures refused c.in_ok-before.was)

pub returns : goal.returns
returns c =
    due_added c.requires.0 (areas_enough c.requires.1 (simp length-replicate (omega arith))) c.sizes.ensures (ok_number _ c.in_ok-ok.ensures.variant) c.in_ok-before.was c.add.ensures
