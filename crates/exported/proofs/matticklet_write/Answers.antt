-- `exported::matticklet_write` meets its contract. Assumes nothing.
use Rattle.paper.specs.Limits.{limits}
use Rattle.writing.specs.Writes.{write_of}
use Rattle.exported.proofs.Answers.{written}
use Rattle.exported.proofs.matticklet_write.Goals as goal

pub returns : goal.returns
returns c =
    let both = written (write_of limits) _ c.tree_from-tree.ensures c.write-w.ensures.whole c.numbers_of.ensures in
    record { answer_after = both.0; room_after = both.1 }
