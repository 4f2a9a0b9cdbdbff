-- `digits::place` meets its contract. Assumes nothing.
use lib.ListN.{length-set}
use Rattle.digits.specs.Digits.{places}
use Rattle.digits.proofs.Steps.{zeros, place_number}
use Rattle.digits.proofs.place.Goals as goal

pub returns : goal.returns
returns c = let r = place_number places c.args.k c.args.d c.requires.1 c.requires.0 in (r.0, r.1, length-set (zeros places) c.args.k c.args.d)
