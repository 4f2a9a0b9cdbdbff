-- `exporting::export` meets its contract. Assumes nothing.
use borrow.Author.Rules.{rules}
use Rattle.records.proofs.Closing.{passed_on}
use Rattle.exporting.proofs.Exports.{export_refused, done_typable, done_short, done_exports}
use Rattle.exporting.proofs.export.Goals as goal

pub returns-in_err-survey : goal.returns-in_err-survey
returns-in_err-survey c = rw (passed_on c.from_residual.ensures.1) (export_refused _ c.args.room.now _ (rw c.in_err-survey.was at c.survey.ensures))

pub lay_text-n-requires : goal.lay_text-n-requires
lay_text-n-requires c = done_typable (rw c.in_ok-survey.was at c.survey.ensures) (search rules) (search rules)

pub returns-then-room-n : goal.returns-then-room-n
returns-then-room-n c = done_short (rw c.in_ok-survey.was at c.survey.ensures) c.lay_text-n.ensures c.args.room.now c.if-room-n.true

pub lay_text-bytes-requires : goal.lay_text-bytes-requires
lay_text-bytes-requires c = done_typable (rw c.in_ok-survey.was at c.survey.ensures) (search rules) (search rules)

pub returns : goal.returns
returns c = done_exports (rw c.in_ok-survey.was at c.survey.ensures) c.lay_text-n.ensures c.args.room.now c.if-room-n.false c.lay_text-bytes.ensures
