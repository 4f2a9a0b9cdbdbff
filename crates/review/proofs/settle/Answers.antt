-- `review::settle` meets its contract. Assumes nothing.
use mathlib.Core.List.{[]}
use lib.ListN.{take}
use Rattle.paper.specs.Cuts.{sets_of}
use Rattle.sets.specs.Words.{set_of}
use Rattle.tables.specs.Table.{den}
use Rattle.walk.specs.Paths.{around}
use Rattle.review.specs.Hopes.{worth}
use Rattle.tables.proofs.Flags.{says_true, says_false}
use Rattle.walk.proofs.Paths.{open_leaf}
use Rattle.review.proofs.Kept.{settle_here, settle_up, climbed_kept}
use Rattle.review.proofs.settle.Goals as goal

pub hope-requires : goal.hope-requires
hope-requires c = (c.requires.0.path, c.requires.3)

pub returns-then-hope : goal.returns-then-hope
returns-then-hope c = (settle_here c.requires.0 (says_true c.hope.result c.if-hope.true c.hope.ensures), c.requires.1, c.requires.2)

pub climb-requires : goal.climb-requires
climb-requires c = (open_leaf c.requires.0.path, c.requires.1, c.requires.3)

pub returns : goal.returns
returns c =
    let T = c.args.nodes.now in
    let P = take c.args.p.depth c.args.path.now in
    let S = set_of c.args.set.now in
    climbed_kept (worth c.args.edition c.args.chances.now c.args.n) _ _ _ _ _ (around T P (sets_of (den T c.args.p.node))) (around T P []) S c.climb.result
    (settle_up c.requires.0 (says_false c.hope.result c.if-hope.false c.hope.ensures)) c.climb.ensures
