-- `scanning::scan` meets its contract. Assumes nothing.
use native.Mathlib.Omega.{arith}
use Rattle.scanning.proofs.Giving.{scan_twice, scan_done}
use Rattle.scanning.proofs.scan.Goals as goal

pub gather-count-requires : goal.gather-count-requires
gather-count-requires c = c.requires.lists

pub define-twice-requires : goal.define-twice-requires
define-twice-requires c =
    record {
      gathered = c.gather-count.ensures;
      count_in_bounds = omega (arith, c.gather-count.ensures.low, c.requires.text_in_bounds.0);
    }

pub give-requires : goal.give-requires
give-requires c =
    record {
      gathered = c.gather-count.ensures;
      places = c.define-twice.ensures.places;
      count_in_bounds = (omega (arith, c.gather-count.ensures.low, c.requires.text_in_bounds.1), omega (arith, c.gather-count.ensures.low, c.requires.text_in_bounds.2));
    }

pub returns-in-Err : goal.returns-in-Err
returns-in-Err c = rw c.in-Err.is at c.give.ensures

pub returns-in-Some : goal.returns-in-Some
returns-in-Some c = scan_twice c.gather-count.ensures c.define-twice.ensures (rw c.in_default.is at c.give.ensures) c.in-Some.is

pub returns-in-None : goal.returns-in-None
returns-in-None c = scan_done c.gather-count.ensures c.define-twice.ensures (rw c.in_default.is at c.give.ensures) c.in-None.is
