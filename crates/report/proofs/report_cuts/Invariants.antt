-- `report::report_cuts` meets its contract. Assumes nothing.
use mathlib.Core.Path.{◌≡◌}
use mathlib.Core.List.{List}
use Prim.Native.Nat.{◌-◌}
use lib.ListN.{length}
use Rattle.paper.specs.Limits.{limits}
use Rattle.paper.specs.Lists.{keep}
use Rattle.paper.specs.Sets.{Set}
use Rattle.tables.specs.Table.{den}
use Rattle.listing.proofs.Calls.{Run}
use Rattle.listing.proofs.Standing.{Standing}
use Rattle.review.specs.Hopes.{worth}
use Rattle.report.specs.Answers.{to_report}
use Rattle.report.proofs.report_cuts.Given as goal

abbrev pub invariant-loop-next : goal.invariant-loop-next
invariant-loop-next l = (length l.path ≡ limits.events)
    × ((left : List Set) × Run l.n (to_report l.edition l.chances l.n (den l.nodes l.root) l.begin l.base) left l.base l.initial.room l.room l.from l.used l.k
    × Standing (keep (worth l.edition l.chances l.n)) l.n l.nodes l.count l.path l.set l.ahead l.line l.next left)

abbrev pub decreases-loop-next : goal.decreases-loop-next
decreases-loop-next l = length l.initial.room - l.used
