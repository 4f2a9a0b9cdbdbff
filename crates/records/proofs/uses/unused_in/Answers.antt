-- `records::uses::unused_in` meets its contract.
-- Assumes nothing.
use mathlib.Core.Path.{sym}
use lib.Seq.{length-take-le}
use Rattle.records.proofs.Closing.{gates_fit, places_fit, inputs_fit, complete, found}
use Rattle.records.proofs.uses.unused_in.Goals as goal

pub slice_bounds-unused-end : goal.slice_bounds-unused-end
slice_bounds-unused-end c = sym (length-take-le _ _ (gates_fit c.requires.1 c.requires.2))

pub slice_bounds-unused-end-2 : goal.slice_bounds-unused-end-2
slice_bounds-unused-end-2 c = sym (length-take-le _ _ (places_fit c.requires.1 c.requires.2))

pub slice_bounds-unused-end-3 : goal.slice_bounds-unused-end-3
slice_bounds-unused-end-3 c = sym (length-take-le _ _ (inputs_fit c.requires.1 c.requires.2))

pub unused-requires : goal.unused-requires
unused-requires c = complete c.requires.1 c.requires.2 c.requires.3 c.requires.4

pub returns : goal.returns
returns c = λ b h e. found h e c.unused.ensures
