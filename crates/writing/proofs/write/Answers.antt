-- `writing::write` meets its contract.
-- Assumes nothing.
use Rattle.records.proofs.Closing.{passed_on}
use Rattle.writing.proofs.Writing.{writes_refused, done_fits, done_short, done_writes}
use Rattle.writing.proofs.write.Goals as goal

pub returns-then-room-n : goal.returns-then-room-n
returns-then-room-n c = done_short (rw c.in_ok-n.was at c.judged.ensures) c.args.room.now c.if-room-n.true

pub emit-requires : goal.emit-requires
emit-requires c = done_fits (rw c.in_ok-n.was at c.judged.ensures) c.if-room-n.false

pub returns : goal.returns
returns c = done_writes (rw c.in_ok-n.was at c.judged.ensures) _ c.if-room-n.false c.emit.ensures

pub returns-in_err-n : goal.returns-in_err-n
returns-in_err-n c = rw (passed_on c.from_residual.ensures.1) (writes_refused _ c.args.room.now _ (rw c.in_err-n.was at c.judged.ensures))
