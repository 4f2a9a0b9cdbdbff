-- `matticklet::pages::say_cuts` meets its contract. Assumes nothing.
use lib.ListN.{length}
use Rattle.tables.specs.Table.{den}
use Rattle.walk.specs.After.{to_list}
use Rattle.listing.specs.Answers.{GoodStart}
use Rattle.matticklet.proofs.pages.say_cuts.Given as goal

abbrev pub invariant-loop-begin : goal.invariant-loop-begin
invariant-loop-begin g l = GoodStart l.events l.begin l.s

abbrev pub decreases-loop-begin : goal.decreases-loop-begin
decreases-loop-begin g l = length (to_list l.events (den l.cuts l.root) l.begin l.s)
