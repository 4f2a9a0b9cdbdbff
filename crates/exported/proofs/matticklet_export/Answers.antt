-- `exported::matticklet_export` meets its contract. Assumes nothing.
use Rattle.paper.specs.Limits.{limits}
use Rattle.exporting.specs.Exports.{export_of}
use Rattle.exported.proofs.Answers.{written}
use Rattle.exported.proofs.matticklet_export.Goals as goal

pub returns : goal.returns
returns c =
    let both = written (export_of limits) _ c.tree_from-tree.ensures c.export-w.ensures c.numbers_of.ensures in
    record { answer_after = both.0; room_after = both.1 }
