-- `equations::answering::grown` meets its contract. Assumes nothing.
use Rattle.std.proofs.lemmas.Result.{err_from_is_err_and}
use Rattle.equations.proofs.Rules.{climbed_plantable, tree_refused, tree_done}
use Rattle.equations.proofs.answering.grown.Goals as goal

pub plant-requires-clause-plantable : goal.plant-requires-clause-plantable
plant-requires-clause-plantable c = climbed_plantable c.requires.known c.requires.climbed c.number.ensures c.kinds_of.ensures c.requires.room c.number.auto.numbers c.kinds_of.auto.kinds c.kinds_of.auto.leasts

pub returns-in_err-tree : goal.returns-in_err-tree
returns-in_err-tree c =
    let p = err_from_is_err_and c.from_residual.result c.from_residual.ensures.1 in
    rw (p.1, p.2) (tree_refused c.requires.known c.requires.climbed c.number.ensures c.kinds_of.ensures _ (rw c.in_err-tree.was at c.plant.ensures))

pub returns : goal.returns
returns c = tree_done c.requires.known c.requires.climbed c.number.ensures c.kinds_of.ensures (rw c.in_ok-tree.was at c.plant.ensures) c.show_names.ensures
