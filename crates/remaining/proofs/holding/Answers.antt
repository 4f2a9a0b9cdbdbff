-- `remaining::holding` meets its contract. Assumes nothing.
use borrow.Author.Rules.{rules}
use mathlib.Core.Path.{◌≡◌}
use native.Mathlib.Omega.{arith}
use lib.ListN.{length}
use borrow.Author.Tests.{not-true, not-false}
use Rattle.sets.specs.Words.{words}
use Rattle.tables.proofs.Flags.{says_true, says_false}
use Rattle.remaining.specs.Tallies.{no_diagram, too_short, beyond, summed}
use Rattle.remaining.proofs.Answering.{beyond_low, not_beyond, unwritten_now}
use Rattle.remaining.proofs.holding.Goals as goal

pub returns-then-not-is_diagram : goal.returns-then-not-is_diagram
returns-then-not-is_diagram c = no_diagram (says_false c.is_diagram.result (not-true c.is_diagram.result c.if-not-is_diagram.true-raw) c.is_diagram.ensures) unwritten_now

pub returns-then-not-lengths_ok : goal.returns-then-not-lengths_ok
returns-then-not-lengths_ok c = too_short (says_true c.is_diagram.result (not-false c.is_diagram.result c.if-not-is_diagram.false-raw) c.is_diagram.ensures) (says_false c.lengths_ok.result (not-true c.lengths_ok.result c.if-not-lengths_ok.true-raw) c.lengths_ok.ensures) unwritten_now

pub returns-then-lowest-lt-MOST : goal.returns-then-lowest-lt-MOST
returns-then-lowest-lt-MOST c =
    let long : length c.args.set ≡ words = search rules in
    beyond (says_true c.is_diagram.result (not-false c.is_diagram.result c.if-not-is_diagram.false-raw) c.is_diagram.ensures) (says_true c.lengths_ok.result (not-false c.lengths_ok.result c.if-not-lengths_ok.false-raw) c.lengths_ok.ensures) (beyond_low c.args.set c.lowest.ensures (omega (arith, long, c.if-lowest-lt-MOST.true))) unwritten_now

pub sum_up-requires : goal.sum_up-requires
sum_up-requires c = ((says_true c.is_diagram.result (not-false c.is_diagram.result c.if-not-is_diagram.false-raw) c.is_diagram.ensures), (says_true c.lengths_ok.result (not-false c.lengths_ok.result c.if-not-lengths_ok.false-raw) c.lengths_ok.ensures))

pub returns : goal.returns
returns c =
    let long : length c.args.set ≡ words = search rules in
    summed (says_true c.is_diagram.result (not-false c.is_diagram.result c.if-not-is_diagram.false-raw) c.is_diagram.ensures) (says_true c.lengths_ok.result (not-false c.lengths_ok.result c.if-not-lengths_ok.false-raw) c.lengths_ok.ensures) (not_beyond c.args.set c.lowest.ensures (omega (arith, long, c.if-lowest-lt-MOST.false))) c.sum_up.ensures
