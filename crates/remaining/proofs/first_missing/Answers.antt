-- `remaining::first_missing` meets its contract. Assumes nothing.
use borrow.Author.Rules.{rules}
use mathlib.Core.Path.{◌≡◌}
use native.Mathlib.Omega.{arith}
use lib.ListN.{length}
use borrow.Author.Tests.{not-true, not-false}
use Rattle.sets.specs.Words.{words}
use Rattle.tables.proofs.Flags.{says_true, says_false}
use Rattle.remaining.specs.FirstCut.{no_diagram, too_short, beyond, searched}
use Rattle.remaining.proofs.Answering.{beyond_low, not_beyond, refused_now}
use Rattle.remaining.proofs.first_missing.Goals as goal

pub returns-then-not-is_diagram : goal.returns-then-not-is_diagram
returns-then-not-is_diagram c = no_diagram (says_false c.is_diagram.result (not-true c.is_diagram.result c.if-not-is_diagram.true-raw) c.is_diagram.ensures) refused_now

pub returns-then-some-cuts : goal.returns-then-some-cuts
returns-then-some-cuts c = too_short (says_true c.is_diagram.result (not-false c.is_diagram.result c.if-not-is_diagram.false-raw) c.is_diagram.ensures) (λ h. omega (arith, h, c.if-some-cuts.true)) refused_now

pub returns-then-lowest-lt-MOST : goal.returns-then-lowest-lt-MOST
returns-then-lowest-lt-MOST c =
    let long : length c.args.set ≡ words = search rules in
    beyond (says_true c.is_diagram.result (not-false c.is_diagram.result c.if-not-is_diagram.false-raw) c.is_diagram.ensures) (omega arith) (beyond_low c.args.set c.lowest.ensures (omega (arith, long, c.if-lowest-lt-MOST.true))) refused_now

pub search-requires : goal.search-requires
search-requires c = ((says_true c.is_diagram.result (not-false c.is_diagram.result c.if-not-is_diagram.false-raw) c.is_diagram.ensures), omega arith)

pub returns : goal.returns
returns c =
    let long : length c.args.set ≡ words = search rules in
    searched (says_true c.is_diagram.result (not-false c.is_diagram.result c.if-not-is_diagram.false-raw) c.is_diagram.ensures) (omega arith) (not_beyond c.args.set c.lowest.ensures (omega (arith, long, c.if-lowest-lt-MOST.false))) c.search.ensures
