-- `scanning::numbering::next_in_line` meets its contract. Assumes nothing.
use native.Mathlib.Omega.{arith}
use mathlib.Core.Path.{sym}
use lib.Seq.{length-take-le}
use Rattle.scanning.proofs.numbering.next_in_line.Goals as goal

pub slice_bounds-next_name-end : goal.slice_bounds-next_name-end
slice_bounds-next_name-end c = sym (length-take-le c.args.stop c.args.text.now c.requires.inside)

pub next_name-requires : goal.next_name-requires
next_name-requires c =
    record {
      i_in_bounds = omega (arith, length-take-le c.args.stop c.args.text.now c.requires.inside, c.requires.from);
      divides = c.requires.divides;
      s_value = c.requires.row;
    }

pub returns : goal.returns
returns c = c.next_name.ensures
