-- `listing::list` meets its contract. Assumes nothing.
use borrow.Author.Rules.{rules}
use mathlib.Core.Path.{◌≡◌, ap}
use lib.ListN.{length}
use borrow.Author.Tests.{not-true, not-false}
use Rattle.sets.specs.Words.{words}
use Rattle.tables.proofs.Flags.{says_true, says_false}
use Rattle.listing.proofs.Answers.{answer_12, answer_13, answer_all, answer_after, turned_down}
use Rattle.listing.proofs.list.Goals as goal

pub returns-then-not-is_diagram : goal.returns-then-not-is_diagram
returns-then-not-is_diagram c = answer_12 c.args.begin c.args.s c.args.room.now (says_false c.is_diagram.result (not-true c.is_diagram.result c.if-not-is_diagram.true-raw) c.is_diagram.ensures) (turned_down 12)

pub returns-then-begin : goal.returns-then-begin
returns-then-begin c = answer_all c.args.begin c.args.s c.args.room.now (says_true c.is_diagram.result (not-false c.is_diagram.result c.if-not-is_diagram.false-raw) c.is_diagram.ensures) c.if-begin.true c.empty.ensures c.list_cuts.ensures

pub returns-then-lowest-lt-MOST : goal.returns-then-lowest-lt-MOST
returns-then-lowest-lt-MOST c = let four : length c.args.s ≡ words = search rules in answer_13 c.args.begin c.args.s c.args.room.now (says_true c.is_diagram.result (not-false c.is_diagram.result c.if-not-is_diagram.false-raw) c.is_diagram.ensures) c.if-begin.false four c.lowest.ensures c.if-lowest-lt-MOST.true (turned_down 13)

pub returns : goal.returns
returns c = let four : length c.args.s ≡ words = search rules in answer_after c.args.begin c.args.s c.args.room.now (says_true c.is_diagram.result (not-false c.is_diagram.result c.if-not-is_diagram.false-raw) c.is_diagram.ensures) c.if-begin.false four c.lowest.ensures c.if-lowest-lt-MOST.false c.list_cuts-2.ensures
