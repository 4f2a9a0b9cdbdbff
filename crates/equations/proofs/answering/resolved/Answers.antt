-- `equations::answering::resolved` meets its contract. Assumes nothing.
use mathlib.Core.Path.{sym}
use lib.Seq.{length-take-le}
use Rattle.equations.proofs.Knowing.{ready_room, ready_fill, scanned_known}
use Rattle.equations.proofs.answering.resolved.Goals as goal

pub fill-used-requires : goal.fill-used-requires
fill-used-requires c =
    record {
      gathered = c.requires.names.gathered;
      places = c.requires.names.places;
      count_in_bounds = ready_fill c.requires.ready c.requires.names.gathered.low;
    }

pub slice_bounds-walked-end : goal.slice_bounds-walked-end
slice_bounds-walked-end c = c.fill-used.ensures.inside

pub slice_bounds-walked-end-2 : goal.slice_bounds-walked-end-2
slice_bounds-walked-end-2 c = sym (length-take-le c.fill-used.result _ c.fill-used.ensures.inside)

pub walked-requires : goal.walked-requires
walked-requires c =
    record {
      known = scanned_known c.requires.names c.fill-used.ensures;
      room = ready_room c.requires.ready c.requires.names.gathered.low;
      heads_in_bounds = (c.requires.ready.round, c.requires.ready.ring);
    }

pub returns : goal.returns
returns c = c.walked.ensures
