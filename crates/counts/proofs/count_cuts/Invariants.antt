-- `counts::count_cuts` meets its contract. Assumes nothing.
use Rattle.std.proofs.Common.{length}
use Rattle.tables.specs.Table.{den}
use Rattle.walk.specs.After.{to_list}
use Rattle.counts.proofs.Counting.{Counted}
use Rattle.counts.proofs.count_cuts.Given as goal

abbrev pub invariant-loop-room : goal.invariant-loop-room
invariant-loop-room l = Counted l.events (den l.cuts l.root) l.begin l.s l.room l.total

abbrev pub decreases-loop-room : goal.decreases-loop-room
decreases-loop-room l = length (to_list l.events (den l.cuts l.root) l.begin l.s)
