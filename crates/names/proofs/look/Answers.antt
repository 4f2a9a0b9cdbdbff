-- `names::look` meets its contract. Assumes nothing.
use Rattle.names.proofs.look.Goals as goal

pub name_end-end-requires : goal.name_end-end-requires
name_end-end-requires c = c.requires.at_in_bounds

pub slot-h-requires : goal.slot-h-requires
slot-h-requires c =
    record {
      ends = c.name_end-end.ensures;
      le_slots = c.requires.interned.chains;
    }

pub find-requires : goal.find-requires
find-requires c =
    record {
      interned = c.requires.interned;
      ends = c.name_end-end.ensures;
      first = c.slot-h.ensures;
    }

pub returns : goal.returns
returns c = c.find.ensures
