-- `counts::report` meets its contract. Assumes nothing.
use Rattle.std.proofs.Common.{arith}
use Rattle.counts.proofs.report.Goals as goal

pub count_cuts-n-requires : goal.count_cuts-n-requires
count_cuts-n-requires g c = c.requires.cuts

pub top-ends-requires : goal.top-ends-requires
top-ends-requires g c =
    record {
      priced = c.requires.nodes;
      nodes_in_bounds = (omega arith, omega arith);
    }
