-- `planner::plan` meets its contract. Assumes nothing.
use borrow.Author.Rules.{rules}
use mathlib.Core.Path.{◌≡◌}
use Prim.Native.Nat.{ℕ}
use native.Mathlib.Omega.{arith}
use lib.ListN.{length-replicate}
use Rattle.paper.specs.Limits.{limits}
use Rattle.std.specs.Prelude.{Err}
use Rattle.paper.proofs.Refusals.{number_above}
use Rattle.planner.proofs.Taking.{plan_refused, plan_start, plan_done}
use Rattle.planner.proofs.plan.Goals as goal

pub returns-in_err-holding : goal.returns-in_err-holding
returns-in_err-holding c =
    let e : c.from_residual.result ≡ Err c.in_err-holding.field-0.0 = search rules in
    let a = number_above c.in_err-holding.field-0.0 in
    rw e (plan_refused c.empty-none.ensures c.in_err-holding.ensures (omega (arith, length-replicate {A = ℕ} limits.events 0)) (λ q. omega (arith, a, q)))

pub take_all-requires : goal.take_all-requires
take_all-requires c = (plan_start c.empty-none.ensures c.in_ok-holding.ensures (omega arith)).0

pub returns : goal.returns
returns c = plan_done c.empty-none.ensures c.in_ok-holding.ensures (omega arith) c.take_all.ensures
