-- `exporting::lines::lay_chances` meets its contract. Assumes nothing.
use borrow.Author.Rules.{rules}
use lib.ListN.{length}
use mathlib.Core.Path.{◌≡◌}
use Rattle.exporting.proofs.Chances.{chances_start, chances_more, chances_end}
use Rattle.exporting.proofs.lines.lay_chances.Goals as goal

pub loop-i-init : goal.loop-i-init
loop-i-init c =
    let long : length c.args.tree.events ≡ 1024 = search rules in
    chances_start c.args.room.now c.args.at c.args.tree c.requires long

pub loop-i-preserved : goal.loop-i-preserved
loop-i-preserved c = chances_more c.loop-i.invariant c.loop-i-test.true c.lay_chance-end.ensures

pub returns : goal.returns
returns c = chances_end c.loop-i.invariant c.loop-i-test.false
