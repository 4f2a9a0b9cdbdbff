-- `sizes::all_sizes` meets its contract. Assumes nothing.
use native.Mathlib.Omega.{arith}
use mathlib.Core.Path.{◌≡◌}
use lib.ListN.{length, replicate}
use borrow.Author.Rules.{rules}
use Rattle.sizes.proofs.Reaching.{listed_alone}
use Rattle.sizes.proofs.Totals.{before_none}
use Rattle.sizes.proofs.all_sizes.Goals as goal

pub largest_size-last-requires : goal.largest_size-last-requires
largest_size-last-requires c = record { held = (c.requires.held.0, listed_alone c.list_reached-many.ensures, c.requires.held.1); root_in_bounds = (c.requires.root_in_bounds.1, c.requires.root_in_bounds.4) }

pub up_to-requires : goal.up_to-requires
up_to-requires c =
    let cleared : c.fill.new.self ≡ replicate (length c.args.less.now) 0 = search rules in
    let root = c.requires.root_in_bounds in
    record {
      held = (c.requires.held.0, listed_alone c.list_reached-many.ensures, before_none _ cleared);
      last_value = (c.largest_size-last.ensures, omega (arith, c.requires.held.1), c.requires.held.2);
      root_in_bounds = (omega (arith, root.0), omega (arith, root.1), omega (arith, root.3), omega (arith, root.4));
    }
