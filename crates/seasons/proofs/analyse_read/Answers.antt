-- `seasons::analyse_read` meets its contract: 24 and 13, or what the analysis of the tree with its forced events as constants promises. Assumes nothing.
use mathlib.Core.Path.{◌≡◌, ap, sym, ◌∙◌}
use Rattle.std.proofs.Common.{Err}
use Rattle.paper.specs.Refusals.{verdict_of}
use Rattle.settings.proofs.Chances.{judged_good}
use Rattle.seasons.proofs.InMemory.{made_buildable, read_few}
use Rattle.seasons.proofs.Outcomes.{store_refused, store_tried}
use borrow.Author.Rules.{rules}
use Rattle.seasons.proofs.analyse_read.Goals as goal

pub returns-in_err-judge : goal.returns-in_err-judge
returns-in_err-judge c =
    let why = c.in_err-judge.field-0.0 in
    let e : c.from_residual.result ≡ Err why = search rules in
    rw e (store_refused _ _ _ why (sym (ap verdict_of c.in_err-judge.was) ∙ c.judge.ensures) _)

pub states_under-states-requires : goal.states_under-states-requires
states_under-states-requires c =
    record {
      events_le_events = read_few c.requires;
      store_value = judged_good _ _ (sym (ap verdict_of c.in_ok-judge.was) ∙ c.judge.ensures);
    }

pub analyse_tree-requires : goal.analyse_tree-requires
analyse_tree-requires c =
    made_buildable _ _ c.force_tree-under.ensures c.requires

pub returns : goal.returns
returns c =
    store_tried _ _ _ (judged_good _ _ (sym (ap verdict_of c.in_ok-judge.was) ∙ c.judge.ensures)) c.states_under-states.ensures c.force_tree-under.ensures c.analyse_tree.ensures
