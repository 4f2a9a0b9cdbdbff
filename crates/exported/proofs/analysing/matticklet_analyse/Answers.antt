-- `exported::analysing::matticklet_analyse` meets its contract. Assumes nothing.
use Rattle.memory.specs.Analysis.{analysis_of}
use Rattle.exported.proofs.analysing.matticklet_analyse.Goals as goal

pub returns : goal.returns
returns c = (analysis_of c.analyse-r.result, (c.analyse-r.ensures, c.tell.ensures))
