-- `exported::matticklet_sizes` meets its contract. Assumes nothing.
use Rattle.exported.proofs.matticklet_sizes.Goals as goal

pub returns : goal.returns
returns c = (c.sizes-r.result, (c.sizes-r.ensures, c.plain.ensures))
