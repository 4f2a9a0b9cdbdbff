-- `matticklet::report` meets its contract. Assumes nothing.
use Rattle.matticklet.proofs.report.Goals as goal

pub say_cuts-requires : goal.say_cuts-requires
say_cuts-requires g c = c.requires.cuts

pub say_top-requires : goal.say_top-requires
say_top-requires g c = c.requires.nodes
