-- `matticklet::say_top` meets its contract. Assumes nothing.
use Rattle.matticklet.proofs.say_top.Goals as goal

pub top_of-n-requires : goal.top_of-n-requires
top_of-n-requires g c = c.requires
