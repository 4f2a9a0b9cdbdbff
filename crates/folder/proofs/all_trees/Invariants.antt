-- `folder::all_trees` meets its contract. Assumes nothing.
use Rattle.memory.specs.Memory.{memory}
use Rattle.folder.specs.Contract.{lends}
use Rattle.folder.proofs.Going.{Going}
use Rattle.folder.proofs.all_trees.Given as goal

abbrev pub invariant-loop-i : goal.invariant-loop-i
invariant-loop-i l =
    Going l.bytes l.lengths (lends (memory l.initial.nodes l.initial.cuts l.initial.gates l.initial.added l.initial.memo l.initial.heads l.initial.next l.initial.marks l.initial.own) l.initial.less l.initial.work l.initial.reached) (lends (memory l.nodes l.cuts l.gates l.added l.memo l.heads l.next l.marks l.own) l.less l.work l.reached) l.i l.start l.totals l.fits
