-- `exported::ranking::matticklet_importance` meets its contract. Assumes nothing.
use Rattle.paper.specs.Refusals.{number_of}
use Rattle.exported.proofs.ranking.matticklet_importance.Goals as goal

pub returns : goal.returns
returns c = (record { number = number_of c.importance-r.result; place = 0 }, (c.importance-r.ensures, c.plain.ensures))
