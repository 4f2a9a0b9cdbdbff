-- `decision::covers` meets its contract. Assumes nothing.
use borrow.Author.Tests.{not-true, not-false}
use mathlib.Core.Path.{sym, ◌∙◌}
use native.Mathlib.Omega.{arith}
use Rattle.decision.proofs.Looking.{look_start, look_end, look_out, look_room, look_whole, look_step}
use Rattle.decision.proofs.covers.Goals as goal

pub member-e-requires : goal.member-e-requires
member-e-requires c = c.requires

pub loop-e-init : goal.loop-e-init
loop-e-init c = look_start c.requires c.member-e.ensures

pub holds-requires : goal.holds-requires
holds-requires c = c.loop-e-test.true

pub returns-then-not-holds : goal.returns-then-not-holds
returns-then-not-holds c = look_out c.loop-e.invariant c.loop-e-test.true (sym c.holds.ensures ∙ not-true c.holds.result c.if-not-holds.true-raw)

pub overflow_add-i : goal.overflow_add-i
overflow_add-i c = omega (arith, (look_room c.loop-e.invariant c.loop-e-test.true c.width-i.ensures).1)

pub member-e-requires-in-loop-e : goal.member-e-requires-in-loop-e
member-e-requires-in-loop-e c = look_whole c.loop-e.invariant c.loop-e-test.true c.width-i.ensures

pub loop-e-smaller : goal.loop-e-smaller
loop-e-smaller c = omega (arith, (look_room c.loop-e.invariant c.loop-e-test.true c.width-i.ensures).0, (look_room c.loop-e.invariant c.loop-e-test.true c.width-i.ensures).1)

pub loop-e-preserved : goal.loop-e-preserved
loop-e-preserved c = look_step c.loop-e.invariant c.loop-e-test.true c.width-i.ensures (sym c.holds.ensures ∙ not-false c.holds.result c.if-not-holds.false-raw) c.member-e-in-loop-e.ensures

pub returns : goal.returns
returns c = look_end c.loop-e.invariant c.loop-e-test.false
