-- `remaining::counts::count_of` meets its contract. Assumes nothing.
use mathlib.Core.Path.{sym, ap₂, ◌∙◌}
use Prim.Native.Nat.{◌+◌}
use Rattle.remaining.specs.Counting.{capped}
use Rattle.remaining.proofs.Caps.{cap_add}
use Rattle.remaining.proofs.Counting.{count_kept, count_both}
use Rattle.remaining.proofs.counts.count_of.Goals as goal

pub returns-then-kept : goal.returns-then-kept
returns-then-kept c = count_kept c.read_node-d.ensures c.requires.counts (sym c.holds-kept.ensures ∙ c.if-kept.true) c.many_at-y.ensures

pub returns : goal.returns
returns c = count_both c.read_node-d.ensures c.requires.counts (sym c.holds-kept.ensures ∙ c.if-kept.false) (c.plus.ensures ∙ ap₂ (λ x y. capped (x + y)) c.many_at-x.ensures c.many_at-y.ensures ∙ cap_add _ _)
