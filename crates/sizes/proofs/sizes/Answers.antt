-- `sizes::sizes` meets its contract. Assumes nothing.
use native.Mathlib.Omega.{arith}
use mathlib.Core.Path.{refl, sym, ◌∙◌}
use lib.Seq.{length-take-le}
use borrow.Author.Rules.{rules}
use Rattle.sizes.specs.Counted.{no_diagram, too_short, too_many, done}
use Rattle.sizes.proofs.Totals.{totals_none, totals_fit, totals_lack}
use Rattle.sizes.proofs.Answer.{refused_now, stopped_now, lent_held, lent_deep, lent_over, lent_fits, lent_done, written_front}
use Rattle.sizes.proofs.sizes.Goals as goal

pub returns-then-not-is_diagram : goal.returns-then-not-is_diagram
returns-then-not-is_diagram c = no_diagram c.if-not-is_diagram.ensures (refused_now (refl, refl))

pub returns-then-not-lengths_ok : goal.returns-then-not-lengths_ok
returns-then-not-lengths_ok c = too_short c.if-not-is_diagram.ensures c.if-not-lengths_ok.ensures (refused_now (refl, refl))

pub all_sizes-fits-requires : goal.all_sizes-fits-requires
all_sizes-fits-requires c =
    let lent = c.if-not-is_diagram.ensures in
    let enough = c.if-not-lengths_ok.ensures in
    let f = lent.fits in
    let r = lent.root_in in
    let b = enough.less in
    let w = enough.work in
    let d = enough.reached in
    record { held = (lent_held lent, lent_deep lent, totals_none _); root_in_bounds = (omega arith, omega arith, omega arith, omega arith, omega arith) }

pub returns-in_default : goal.returns-in_default
returns-in_default c =
    let lent = c.if-not-is_diagram.ensures in
    too_many lent c.if-not-lengths_ok.ensures (lent_over lent (totals_lack _ c.all_sizes-fits.ensures c.in_default.is)) (stopped_now (refl, refl))
    (record { less = search rules; work = search rules; reached = search rules })

pub copy_from_slice-requires : goal.copy_from_slice-requires
copy_from_slice-requires c =
    let long = (totals_fit c.all_sizes-fits.ensures c.in-Some.is).1 in
    let room = c.if-not-lengths_ok.ensures.counts in
    length-take-le 1025 c.args.counts.now (omega arith) ∙ sym long

pub returns : goal.returns
returns c =
    let lent = c.if-not-is_diagram.ensures in
    let whole = (totals_fit c.all_sizes-fits.ensures c.in-Some.is).0 in
    let long = (totals_fit c.all_sizes-fits.ensures c.in-Some.is).1 in
    let room = c.if-not-lengths_ok.ensures.counts in
    done lent c.if-not-lengths_ok.ensures (lent_fits lent whole) (lent_done lent whole (written_front long room c.copy_from_slice.ensures.after) (refl, refl))
    (record { less = search rules; work = search rules; reached = search rules })
