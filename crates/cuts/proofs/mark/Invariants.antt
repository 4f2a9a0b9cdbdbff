-- The invariant: only what is reached is marked, the root is, and so are the branches of each marked node from i on. Assumes nothing.
use Prim.Native.Nat.{◌-◌}
use Rattle.cuts.proofs.Marks.{Marking}
use Rattle.cuts.proofs.mark.Given as goal

abbrev pub invariant-loop-i : goal.invariant-loop-i
invariant-loop-i l = Marking l.nodes l.root l.marks (l.i - 1)
