-- `bracket::fill_all` meets its contract. Assumes nothing.
use Prim.Native.Nat.{◌-◌}
use Rattle.paper.specs.Limits.{billion}
use Rattle.bracket.specs.Pass.{Filled}
use Rattle.bracket.proofs.fill_all.Given as goal

abbrev pub invariant-loop-i : goal.invariant-loop-i
invariant-loop-i l = (Filled 0 l.chances l.nodes l.lows l.i) × (Filled (billion - 1) l.chances l.nodes l.highs l.i)
