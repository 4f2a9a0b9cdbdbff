-- `listing::list_cuts` meets its contract. Assumes nothing.
use mathlib.Core.Path.{◌≡◌}
use mathlib.Core.List.{List}
use Prim.Native.Nat.{◌-◌}
use lib.ListN.{length}
use Rattle.paper.specs.Limits.{limits}
use Rattle.paper.specs.Sets.{Set}
use Rattle.tables.specs.Table.{den}
use Rattle.walk.specs.After.{to_list}
use Rattle.listing.proofs.Calls.{Run}
use Rattle.listing.proofs.Standing.{Standing}
use Rattle.listing.proofs.list_cuts.Given as goal

abbrev pub invariant-loop-next : goal.invariant-loop-next
invariant-loop-next l = (length l.path ≡ limits.events)
    × ((left : List Set) × Run l.n (to_list l.n (den l.nodes l.root) l.begin l.base) left l.base l.initial.room l.room l.from l.used l.k
    × Standing (λ x. x) l.n l.nodes l.count l.path l.set l.ahead l.line l.next left)

abbrev pub decreases-loop-next : goal.decreases-loop-next
decreases-loop-next l = length l.initial.room - l.used
