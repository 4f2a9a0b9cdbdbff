-- `lines::digits_end` meets its contract. Assumes nothing.
use borrow.Author.Rules.{rules}
use native.Mathlib.Omega.{arith}
use Prim.Native.Nat.{ℕ, ◌-◌, ◌≤◌}
use lib.ListN.{length}
use Rattle.paper.specs.Bytes.{digit}
use Rattle.lines.specs.Reading.{Ends}
use Rattle.lines.proofs.Tests.{denied, granted}
use Rattle.lines.proofs.Leads.{ends_stop, ends_end, ends_step}
use Rattle.lines.proofs.digits_end.Goals as goal

pub loop-e-init : goal.loop-e-init
loop-e-init c = ((λ r w. w), c.requires)

pub returns-then-not-is_digit : goal.returns-then-not-is_digit
returns-then-not-is_digit c = c.loop-e.invariant.0 c.loop-e.e (ends_stop c.loop-e-test.true (denied c.is_digit.ensures c.if-not-is_digit.true-raw))

pub loop-e-preserved : goal.loop-e-preserved
loop-e-preserved c = ((λ r w. c.loop-e.invariant.0 r (ends_step c.loop-e-test.true (granted c.is_digit.ensures c.if-not-is_digit.false-raw) w)), omega (arith, c.loop-e-test.true))

pub returns : goal.returns
returns c = c.loop-e.invariant.0 c.loop-e.e (ends_end c.loop-e.invariant.1 c.loop-e-test.false)
