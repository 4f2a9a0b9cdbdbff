-- `arrays::chances_of` meets its contract. Assumes nothing.
use mathlib.Core.Path.{sym, ◌∙◌}
use native.Mathlib.Omega.{arith}
use lib.ListN.{get_or}
use lib.Seq.{ext_get_or}
use Rattle.paper.specs.Limits.{limits}
use Rattle.records.specs.Memory.{no_event}
use Rattle.arrays.specs.Chances.{chances_of}
use Rattle.arrays.proofs.Filling.{tabulate_long, tabulate_at}
use Rattle.arrays.proofs.chances_of.Goals as goal

pub returns : goal.returns
unfolding chances_of
returns c =
    let m = c.map.ensures.items in
    ext_get_or 0 _ _ (m.long ∙ sym (tabulate_long _ limits.events))
    (λ k h. let at = m.at k no_event 0 (omega (arith, m.long)) in let met = at.2.met in omega (arith, met, tabulate_at (λ e. (get_or c.args.events e no_event).chance) limits.events k 0 (omega (arith, m.long))))
