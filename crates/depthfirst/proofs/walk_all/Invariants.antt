-- `depthfirst::walk_all` meets its contract. Assumes nothing.
use mathlib.Core.Path.{◌≡◌}
use lib.ListN.{length}
use Rattle.depthfirst.specs.Marking.{Rooms}
use Rattle.depthfirst.proofs.All.{Covers}
use Rattle.depthfirst.proofs.walk_all.Given as goal

abbrev pub invariant-loop-i : goal.invariant-loop-i
invariant-loop-i l =
    Covers l.starts l.inputs l.count l.mark l.order l.left l.i
    × Rooms l.count l.mark l.stack l.at l.order
    × (length l.mark ≡ length l.initial.mark)
    × (length l.stack ≡ length l.initial.stack)
    × (length l.at ≡ length l.initial.at)
    × (length l.order ≡ length l.initial.order)
