-- `matticklet::top_of` meets its contract. Assumes nothing.
use mathlib.Core.Path.{◌∙◌}
use native.Mathlib.Omega.{arith}
use Rattle.matticklet.proofs.TopLine.{top_line}
use Rattle.matticklet.proofs.top_of.Goals as goal

pub top-ends-requires : goal.top-ends-requires
top-ends-requires c =
    record {
      priced = c.requires;
      nodes_in_bounds = (omega arith, omega arith);
    }

pub returns : goal.returns
returns c = (c.top.ensures.0, c.top.ensures.1 ∙ top_line c.top-ends.ensures)
