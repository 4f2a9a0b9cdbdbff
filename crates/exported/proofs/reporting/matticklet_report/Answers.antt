-- `exported::reporting::matticklet_report` meets its contract. Assumes nothing.
use Rattle.exported.proofs.reporting.matticklet_report.Goals as goal

pub returns : goal.returns
returns c = (c.report-r.result, (c.report-r.ensures, c.tell.ensures))
