-- `totals::write_done` meets its contract. Assumes nothing.
use mathlib.Core.Path.{◌≡◌, sym, ◌∙◌}
use lib.Seq.{length-take-le}
use borrow.Author.Rules.{rules}
use Rattle.paper.specs.Refusals.{number_of}
use Rattle.sizes.proofs.Answer.{written_front}
use Rattle.totals.proofs.Adding.{ends_done, ends_refused}
use Rattle.totals.proofs.write_done.Goals as goal

pub copy_from_slice-requires : goal.copy_from_slice-requires
copy_from_slice-requires c = length-take-le 1025 c.args.counts.now c.requires ∙ sym c.told-totals

pub returns-then-is_ok : goal.returns-then-is_ok
returns-then-is_ok c =
    let z : number_of c.args.r ≡ 0 = search rules in
    ends_done z (written_front c.told-totals c.requires c.copy_from_slice.ensures.after)
