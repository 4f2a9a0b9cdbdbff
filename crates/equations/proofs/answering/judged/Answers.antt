-- `equations::answering::judged` meets its contract. Assumes nothing.
use mathlib.Core.Path.{◌∙◌}
use Rattle.equations.proofs.Rules.{fifteen, sixteen}
use Rattle.equations.proofs.Knowing.{ready_kept, ready_scan, scan_lists}
use Rattle.equations.proofs.answering.judged.Goals as goal

pub scan-s-requires : goal.scan-s-requires
scan-s-requires c =
    record {
      lists = scan_lists c.requires.ready c.requires.cut;
      text_in_bounds = ready_scan c.requires.ready;
    }

pub resolved-requires : goal.resolved-requires
resolved-requires c =
    record {
      names = rw c.in-Ok.is at c.scan-s.ensures;
      ready = ready_kept c.requires.ready c.scan-s.auto.heads c.scan-s.auto.next c.scan-s.auto.names c.scan-s.auto.defs c.scan-s.auto.marks c.scan-s.auto.chances;
    }

pub returns-in-WrongLine : goal.returns-in-WrongLine
returns-in-WrongLine c = fifteen (rw c.in-WrongLine.is at (rw c.in-Err.is at c.scan-s.ensures))

pub returns-in-DefinedTwice : goal.returns-in-DefinedTwice
returns-in-DefinedTwice c = sixteen (rw c.in-DefinedTwice.is at (rw c.in-Err.is at c.scan-s.ensures))

pub shape_of-heads-in-Ok : goal.shape_of-heads-in-Ok
shape_of-heads-in-Ok c = c.resolved.auto.heads ∙ c.scan-s.auto.heads

pub shape_of-next-in-Ok : goal.shape_of-next-in-Ok
shape_of-next-in-Ok c = c.resolved.auto.next ∙ c.scan-s.auto.next

pub shape_of-names-in-Ok : goal.shape_of-names-in-Ok
shape_of-names-in-Ok c = c.scan-s.auto.names

pub shape_of-defs-in-Ok : goal.shape_of-defs-in-Ok
shape_of-defs-in-Ok c = c.scan-s.auto.defs

pub shape_of-marks-in-Ok : goal.shape_of-marks-in-Ok
shape_of-marks-in-Ok c = c.resolved.auto.marks ∙ c.scan-s.auto.marks

pub shape_of-amounts-in-Ok : goal.shape_of-amounts-in-Ok
shape_of-amounts-in-Ok c = c.scan-s.auto.chances

pub returns-in-Ok : goal.returns-in-Ok
returns-in-Ok c = c.resolved.ensures
