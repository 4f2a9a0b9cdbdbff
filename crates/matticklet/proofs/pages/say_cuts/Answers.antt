-- `matticklet::pages::say_cuts` meets its contract. Assumes nothing.
use mathlib.Core.Bool.{true≢false}
use Rattle.matticklet.proofs.pages.say_cuts.Goals as goal

pub loop-begin-init : goal.loop-begin-init
loop-begin-init g c = λ z. absurd (true≢false z)

pub page-p-requires : goal.page-p-requires
page-p-requires g c =
    record {
      lent = c.requires;
      good_start = c.loop-begin.invariant;
    }

pub slice_bounds-text-end : goal.slice_bounds-text-end
slice_bounds-text-end g c = c.page-p.ensures.lines.0.0

pub slice_bounds-write_all-end : goal.slice_bounds-write_all-end
slice_bounds-write_all-end g c = c.page-p.ensures.lines.0.1

pub loop-begin-smaller : goal.loop-begin-smaller
loop-begin-smaller g c = c.page-p.ensures.fewer c.if-p.false

pub loop-begin-preserved : goal.loop-begin-preserved
loop-begin-preserved g c = c.page-p.ensures.within
