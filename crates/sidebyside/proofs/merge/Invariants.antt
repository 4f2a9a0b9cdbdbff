-- `sidebyside::merge` meets its contract. Assumes nothing.
use Prim.Native.Nat.{◌+◌, ◌-◌}
use lib.ListN.{length}
use Rattle.sidebyside.specs.Merging.{Merging}
use Rattle.sidebyside.proofs.merge.Given as goal

abbrev pub invariant-loop-r : goal.invariant-loop-r
invariant-loop-r l = Merging l.y l.t l.r.i l.r.e l.r.j l.r.f l.r.gone l.r.new l.r.kept

abbrev pub decreases-loop-r : goal.decreases-loop-r
decreases-loop-r l = length l.y + length l.t - (l.r.i + l.r.j)
