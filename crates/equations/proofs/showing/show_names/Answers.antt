-- `equations::showing::show_names` meets its contract. Assumes nothing.
use Rattle.equations.proofs.Shown.{events_showable, gates_showable, both_shown}
use Rattle.equations.proofs.showing.show_names.Goals as goal

pub show-n-requires : goal.show-n-requires
show-n-requires c = events_showable c.requires

pub show-requires : goal.show-requires
show-requires c = gates_showable c.requires c.show-n.ensures c.show-n.auto.shown

pub returns : goal.returns
returns c = both_shown c.requires c.show-n.ensures c.show-n.auto.shown c.show.ensures
