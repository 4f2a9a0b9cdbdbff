-- `decision::decides` meets its contract. Assumes nothing.
use borrow.Author.Rules.{rules}
use mathlib.Core.Path.{◌≡◌}
use native.Mathlib.Omega.{arith}
use lib.ListN.{length}
use Rattle.sets.specs.Words.{words}
use Rattle.sidebyside.proofs.Telling.{held_good}
use Rattle.decision.specs.Answers.{bad_listing, beyond}
use Rattle.decision.proofs.Looking.{beyond_low, not_beyond}
use Rattle.decision.proofs.Contains.{refused_now, decided_now}
use Rattle.decision.proofs.decides.Goals as goal

pub returns-in_default : goal.returns-in_default
returns-in_default c = bad_listing c.in_default.ensures (refused_now 20)

pub returns-then-lowest-lt-MOST : goal.returns-then-lowest-lt-MOST
returns-then-lowest-lt-MOST c =
    let long : length c.args.s ≡ words = search rules in
    beyond (held_good c.in-Some.ensures.held) (beyond_low c.args.s c.lowest.ensures (omega (arith, long, c.if-lowest-lt-MOST.true))) (refused_now 13)

pub returns : goal.returns
returns c =
    let long : length c.args.s ≡ words = search rules in
    decided_now c.in-Some.ensures (not_beyond c.args.s c.lowest.ensures (omega (arith, long, c.if-lowest-lt-MOST.false)))
