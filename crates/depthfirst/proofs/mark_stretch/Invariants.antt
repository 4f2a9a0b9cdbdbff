-- `depthfirst::mark_stretch` meets its contract. Assumes nothing.
use mathlib.Core.Path.{◌≡◌}
use lib.ListN.{length}
use Rattle.depthfirst.proofs.Rooting.{Stretching}
use Rattle.depthfirst.proofs.mark_stretch.Given as goal

abbrev pub invariant-loop-q : goal.invariant-loop-q
invariant-loop-q l = (length l.mark ≡ length l.initial.mark) × Stretching l.inputs l.initial.mark l.p l.end l.q l.mark
