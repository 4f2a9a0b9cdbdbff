-- `twins::distinct` meets its contract. Assumes nothing.
use mathlib.Core.Path.{sym, ◌∙◌}
use native.Mathlib.Omega.{arith}
use Rattle.twins.proofs.Sifting.{sifting_start, sifting_few, sifting_twin, sifting_new, sifting_done}
use Rattle.twins.proofs.distinct.Goals.{then-not-contains, else-not-contains}
use Rattle.twins.proofs.distinct.Goals as goal

pub bounds-out-n : goal.bounds-out-n
bounds-out-n c = omega (arith, sifting_few c.loop-i.invariant)

pub loop-i-preserved : goal.loop-i-preserved
loop-i-preserved c = elim c.if-not-contains.branch [
  | then-not-contains w ↦ sifting_new c.loop-i.invariant c.loop-i-test.true (sym c.contains.ensures.value ∙ w.if-not-contains.true) c.requires.inputs_len_bound w.out-is w.n-is
  | else-not-contains w ↦ sifting_twin c.loop-i.invariant c.loop-i-test.true (sym c.contains.ensures.value ∙ w.if-not-contains.false) w.out-is w.n-is
]
