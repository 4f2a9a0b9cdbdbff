-- `sidebyside::tally` meets its contract. Assumes nothing.
use Rattle.sidebyside.proofs.Merging.{merge_mine, merge_yours, merge_counts}
use Rattle.sidebyside.proofs.tally.Goals as goal

pub rests-requires : goal.rests-requires
rests-requires c = (merge_mine c.merge-m.ensures.merging, merge_yours c.merge-m.ensures.merging)

pub returns : goal.returns
returns c = merge_counts c.merge-m.ensures.merging c.merge-m.ensures.over c.in_ok-a.ensures.0 c.in_ok-a.ensures.1
