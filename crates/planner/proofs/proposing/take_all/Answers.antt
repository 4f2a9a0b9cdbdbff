-- `planner::proposing::take_all` meets its contract. Assumes nothing.
use mathlib.Core.Path.{refl, ap, ◌∙◌}
use native.Mathlib.Omega.{arith}
use lib.ListN.{length}
use Rattle.sets.specs.Words.{words, set_of}
use Rattle.sets.proofs.Words.{empty_none}
use Rattle.remaining.specs.Families.{family}
use Rattle.paper.proofs.Refusals.{number_above}
use Rattle.planner.proofs.Checking.{area_kept}
use Rattle.planner.proofs.Taking.{going_start, going_less, going_within, going_next, going_end, not_beyond, fits_still, enough_still, tallied_of}
use Rattle.planner.proofs.proposing.take_all.Goals as goal

pub loop-counts-init : goal.loop-counts-init
loop-counts-init c = (ap length c.empty-set.ensures, going_start (ap set_of c.empty-set.ensures ∙ empty_none words) c.requires.counts c.most-e.ensures, refl, refl, refl)

pub loop-counts-smaller : goal.loop-counts-smaller
loop-counts-smaller c = going_less c.loop-counts.invariant.1 c.loop-counts-test.true c.add.ensures

pub loop-counts-preserved : goal.loop-counts-preserved
loop-counts-preserved c = (c.add.auto.ws ∙ c.loop-counts.invariant.0, going_next c.loop-counts.invariant.1 c.loop-counts-test.true c.add.ensures (tallied_of c.holding.ensures c.requires.diagram (enough_still c.requires.enough c.loop-counts.invariant.2 c.loop-counts.invariant.3 c.loop-counts.invariant.4) (not_beyond (going_within c.loop-counts.invariant.1 c.loop-counts-test.true c.add.ensures)) (fits_still (family c.args.cuts.now c.args.root) (set_of c.add.new.ws) c.requires.fits)).counts c.most-e-in-loop-counts.ensures, c.holding.auto.counts ∙ c.loop-counts.invariant.2, area_kept c.requires.zero_below c.loop-counts.invariant.3 (tallied_of c.holding.ensures c.requires.diagram (enough_still c.requires.enough c.loop-counts.invariant.2 c.loop-counts.invariant.3 c.loop-counts.invariant.4) (not_beyond (going_within c.loop-counts.invariant.1 c.loop-counts-test.true c.add.ensures)) (fits_still (family c.args.cuts.now c.args.root) (set_of c.add.new.ws) c.requires.fits)).below, area_kept c.requires.zero_ways c.loop-counts.invariant.4 (tallied_of c.holding.ensures c.requires.diagram (enough_still c.requires.enough c.loop-counts.invariant.2 c.loop-counts.invariant.3 c.loop-counts.invariant.4) (not_beyond (going_within c.loop-counts.invariant.1 c.loop-counts-test.true c.add.ensures)) (fits_still (family c.args.cuts.now c.args.root) (set_of c.add.new.ws) c.requires.fits)).ways)

pub returns : goal.returns
returns c = (c.loop-counts.invariant.0, going_end c.loop-counts.invariant.1 c.loop-counts-test.false, c.loop-counts.invariant.3, c.loop-counts.invariant.4)

-- no refusal is due
pub unreachable-requires : goal.unreachable-requires
unreachable-requires c =
    let a = number_above c.in_default.field-0 in
    let t = tallied_of c.in_default.ensures c.requires.diagram (enough_still c.requires.enough c.loop-counts.invariant.2 c.loop-counts.invariant.3 c.loop-counts.invariant.4) (not_beyond (going_within c.loop-counts.invariant.1 c.loop-counts-test.true c.add.ensures)) (fits_still (family c.args.cuts.now c.args.root) (set_of c.add.new.ws) c.requires.fits) in
    let b = t.number_is in
    omega (arith, a, b)
