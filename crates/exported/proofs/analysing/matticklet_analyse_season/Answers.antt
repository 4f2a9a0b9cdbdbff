-- `exported::analysing::matticklet_analyse_season` meets its contract. Assumes nothing.
use Rattle.memory.specs.Analysis.{analysis_of}
use Rattle.exported.proofs.analysing.matticklet_analyse_season.Goals as goal

pub returns : goal.returns
returns c = (analysis_of c.analyse_season-r.result, (c.analyse_season-r.ensures, c.tell.ensures))
