-- A number that is not marked is passed over; of a marked one the cut number is kept. Assumes nothing.
use Rattle.std.proofs.lemmas.Result.{err_from_is_err_and}
use Rattle.cuts.proofs.Up.{up_skip, up_turn, up_short, up_done}
use Rattle.cuts.proofs.cut_step.Goals as goal

pub returns-then-marks-i-eq0 : goal.returns-then-marks-i-eq0
returns-then-marks-i-eq0 c = up_skip c.requires.base c.requires.halfway c.if-marks-i-eq0.true

pub cut_node-requires : goal.cut_node-requires
cut_node-requires c =
    let i = c.requires.le_i in
    up_turn c.requires.base c.requires.halfway i.0 i.1 c.if-marks-i-eq0.false i.2

pub returns-in_err-b : goal.returns-in_err-b
returns-in_err-b c =
    let i = c.requires.le_i in
    let e = err_from_is_err_and c.from_residual.result c.from_residual.ensures.1 in
    rw e.1 (up_short c.requires.base c.requires.halfway i.0 i.1 c.if-marks-i-eq0.false c.in_err-b.ensures)

pub returns : goal.returns
returns c =
    let i = c.requires.le_i in
    up_done c.requires.base c.requires.halfway i.0 i.1 c.if-marks-i-eq0.false i.2 c.in_ok-b.ensures
