-- THE PROMISE of any tree that can be built: also of one with forced events.
-- Assumes nothing.
use mathlib.Core.Path.{◌≡◌, sym, subst}
use mathlib.Core.List.{List}
use Prim.Native.Nat.{ℕ, ◌≤◌, ◌<◌}
use lib.ListN.{length}
use Rattle.paper.specs.Limits.{billion}
use Rattle.paper.specs.Trees.{Tree, events}
use Rattle.listing.proofs.Join.{join_all, goes_on}
use Rattle.bracket.specs.Bracketed.{chance_in, Bracketed}
use Rattle.memory.specs.Memory.{Memory, capacity}
use Rattle.memory.specs.Outcome.{Done}
use Rattle.memory.specs.Analysis.{Analysis}
use Rattle.analysis.specs.Completing.{Sound}
use Rattle.promises.specs.Delivers.{Exact, Faithful, Listed, Own, Near, Delivers}
use Rattle.promises.proofs.Added.{adds_up}
use Rattle.promises.proofs.Promises.{root_function, gates_agree, functions_apart, families_apart}
use Rattle.promises.proofs.OnTables.{list_takes, list_no_other, bracket_takes, bracket_answers, bracket_encloses, cuts_exactly, cuts_sorted, cuts_once, cuts_decide}
use Rattle.promises.proofs.Serving.{serves, hands_on}

module _ (t : Tree) (sound : Sound t) (chances : (e : ℕ) → e < events t → chance_in t.chances e ≤ billion) {m m' : Memory} {a : Analysis} (d : Done t m m' a) where
  exactly : Exact t m' a
  exactly = record { nodes = d.node_count; cut_nodes = d.cut_count; added = d.added_list.each; adds_up = adds_up d; functions = d.nodes_needed; functions_apart = functions_apart d; families = d.cuts_needed; families_apart = families_apart d }

  faithfully : Faithful t m' a
  faithfully = record {
    gates = gates_agree d;
    root = root_function d sound.some_gate;
    cuts = cuts_exactly d sound;
    sorted = cuts_sorted d sound;
    once = cuts_once d sound;
    decide = cuts_decide d sound;
  }

  all_listed : Listed t m' a
  all_listed = record {
    takes = λ x. list_takes d x;
    answers = λ x s r. serves x d.cut_table.lent s r;
    goes_on = λ x. (hands_on x, λ q. goes_on x q);
    whole = λ j. join_all j;
    no_other = λ j l w e. list_no_other d j l w e;
  }

  own_chances_answer : {A L H L' H' : List ℕ} {number place lo hi : ℕ} → Bracketed (events t) m'.nodes a.nodes a.root A number place lo hi L H L' H'
      → Own t A → capacity m'.nodes ≤ length L → capacity m'.nodes ≤ length H → number ≡ 0
  own_chances_answer x o p q = bracket_answers d x (record { chances = o.enough; lows = p; highs = q })
      (record { each = λ e h. subst (λ k. k ≤ billion) (sym (o.each e h)) (chances e h) })

  nearly : Near t m' a
  nearly = record {
    takes = λ x. bracket_takes d x;
    encloses = λ x q. bracket_encloses d sound.some_gate x q;
    answers = λ x o p q. own_chances_answer x o p q;
  }

  pub tree_delivers : Delivers t m' a
  tree_delivers = record { exact = exactly; faithful = faithfully; listed = all_listed; near = nearly }
