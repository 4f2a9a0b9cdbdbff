-- The invariant: the reached numbers below i have their cuts. Assumes nothing.
use native.Mathlib.Omega.{arith}
use Rattle.cuts.proofs.Up.{up_end}
use Rattle.cuts.proofs.cut_all.Goals as goal

pub returns : goal.returns
returns c = up_end c.requires.base c.loop-i.invariant (omega arith)
