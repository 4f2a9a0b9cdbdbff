-- `depthfirst::walk_on` meets its contract. Assumes nothing.
use mathlib.Core.Path.{◌≡◌}
use Prim.Native.Nat.{◌+◌, ◌-◌, ◌*◌}
use lib.ListN.{length, take}
use Rattle.paper.specs.Walks.{visit}
use Rattle.depthfirst.specs.Inputs.{inputs_of}
use Rattle.depthfirst.proofs.Going.{Going}
use Rattle.depthfirst.proofs.walk_on.Given as goal

abbrev pub invariant-loop-depth : goal.invariant-loop-depth
invariant-loop-depth l =
    Going l.starts l.inputs l.count l.mark l.stack l.at l.order l.depth l.n (λ k. visit (inputs_of l.starts l.inputs) k (take l.left l.initial.order) l.root)
    × (length l.mark ≡ length l.initial.mark)
    × (length l.stack ≡ length l.initial.stack)
    × (length l.at ≡ length l.initial.at)
    × (length l.order ≡ length l.initial.order)

abbrev pub decreases-loop-depth : goal.decreases-loop-depth
decreases-loop-depth l = 2 * l.count - (l.depth + 2 * l.n)
