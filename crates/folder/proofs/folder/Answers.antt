-- `folder::folder` meets its contract. Assumes nothing.
use mathlib.Core.Path.{◌≡◌, refl, ◌∙◌}
use Prim.Native.Nat.{ℕ}
use lib.ListN.{length-replicate}
use borrow.Author.Rules.{rules}
use Rattle.paper.specs.Limits.{limits}
use Rattle.paper.specs.Refusals.{number_of}
use Rattle.paper.specs.Sizes.{sizes}
use Rattle.totals.proofs.Adding.{areas_from}
use Rattle.folder.specs.Contract.{Gathers}
use Rattle.folder.specs.Gathered.{gathered_of}
use Rattle.folder.proofs.Totals.{sums_none}
use Rattle.folder.proofs.Going.{none_says}
use Rattle.folder.proofs.Outcome.{own_zero, at_once, ends_same, ended}
use Rattle.folder.proofs.folder.Goals as goal

pub returns-then-not-is_fitting : goal.returns-then-not-is_fitting
returns-then-not-is_fitting c = Gathers.misfit c.if-not-is_fitting.ensures (none_says c.of_no_tree.ensures) refl refl

pub all_trees-r-requires : goal.all_trees-r-requires
all_trees-r-requires c = let f = c.if-not-is_fitting.ensures in (f.whole, areas_from f.enough, length-replicate {A = ℕ} sizes 0, sums_none refl)

pub returns-then-is_unchanged : goal.returns-then-is_unchanged
returns-then-is_unchanged c = at_once c.if-not-is_fitting.ensures c.all_trees-r.ensures refl c.if-is_unchanged.ensures

pub write_done-requires : goal.write_done-requires
write_done-requires c = let f = c.if-not-is_fitting.ensures in f.enough.counts

pub returns : goal.returns
returns c =
    let number : number_of c.map_err.result ≡ (gathered_of c.all_trees-r.result).number = search rules in
    ended c.if-not-is_fitting.ensures c.all_trees-r.ensures
    (record { memory = record { nodes = c.all_trees-r.auto.nodes; cuts = c.all_trees-r.auto.cuts; gates = c.all_trees-r.auto.gates; added = c.all_trees-r.auto.added; memo = c.all_trees-r.auto.memo; heads = c.all_trees-r.auto.heads; next = c.all_trees-r.auto.next; marks = c.all_trees-r.auto.marks; own = c.all_trees-r.auto.own }; less = c.all_trees-r.auto.less; work = c.all_trees-r.auto.work; reached = c.all_trees-r.auto.reached })
    (record { memory = own_zero c.wipe.ensures (c.all_trees-r.auto.added ∙ length-replicate {A = ℕ} limits.gates 0); less = c.clear_areas.ensures.less; work = c.clear_areas.ensures.work; reached = c.clear_areas.ensures.reached })
    c.if-is_unchanged.ensures (ends_same number c.write_done.ensures)
