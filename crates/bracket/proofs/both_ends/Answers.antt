-- `bracket::both_ends` meets its contract. Assumes nothing.
use mathlib.Core.Path.{refl}
use Rattle.bracket.proofs.Pass.{low_read, high_read}
use borrow.Author.Rules.{rules}
use Rattle.bracket.proofs.both_ends.Goals as goal

pub returns : goal.returns
returns c =
    record {
      number_is = refl;
      no_place = refl;
      low_is = low_read c.requires.0.lent.root_in c.number_in-low.ensures c.fill_all.ensures.0;
      high_is = high_read c.requires.0.lent.root_in c.number_in-high.ensures c.fill_all.ensures.1;
      lows = search rules;
      highs = search rules;
    }
