-- OLD FILES KEEP THEIR BYTES AND THEIR MEANING: every tree that is accepted at the old limits.
-- Assumes nothing.
use mathlib.Core.Path.{◌≡◌, sym, ap, ◌∙◌, subst}
use mathlib.Core.Logic.{◌↔◌}
use mathlib.Core.List.{List}
use Prim.Native.Nat.{ℕ, ◌≤◌, ◌<◌}
use native.Mathlib.Omega.{arith}
use lib.ListN.{length}
use Rattle.paper.specs.Limits.{limits, old_limits, billion}
use Rattle.paper.specs.Trees.{events, root_fun}
use Rattle.paper.specs.Diagrams.{Diagram, diagram_of}
use Rattle.paper.specs.Cuts.{cut_list}
use Rattle.paper.specs.Chance.{low, high}
use Rattle.paper.specs.Sizes.{cuts_of_size}
use Rattle.paper.proofs.Old.{old_set, old_sets}
use Rattle.algebra.proofs.Canon.{diagram_of_lem}
use Rattle.tables.specs.Table.{den}
use Rattle.tables.proofs.Lent.{root_ordered}
use Rattle.tables.proofs.Once.{lent_good}
use Rattle.records.specs.Judge.{Book, accept, outcome}
use Rattle.records.specs.Trees.{Lawful, tree_of}
use Rattle.trees.specs.Exactly.{AreBytes}
use Rattle.trees.proofs.Lawful.{lawful, tree_events}
use Rattle.trees.proofs.Old.{old_reads, old_writes, old_exactly}
use Rattle.bracket.specs.Bracketed.{chance_in, Bracketed}
use Rattle.sizes.proofs.Counts.{count_sized, deepest_within, sized_above}
use Rattle.memory.specs.Memory.{Memory}
use Rattle.memory.specs.Outcome.{Done}
use Rattle.memory.specs.Analysis.{Analysis}
use Rattle.analysis.proofs.Reading.{read_sound}
use Rattle.analyser.specs.Analysed.{Analysed}
use Rattle.promises.specs.Old.{SameAnswers, OldFile}
use Rattle.promises.proofs.Coincide.{same_book}
use Rattle.promises.proofs.Which.{finished_tree}
use Rattle.promises.proofs.Promises.{root_function}
use Rattle.promises.proofs.OnTables.{list_is_whole}
use Rattle.promises.proofs.BySize.{count_is, done_by_size}

module _ (b : Book) (l : Lawful limits b) (few : events (tree_of b) ≤ old_limits.events) {m m' : Memory} {a : Analysis} (d : Done (tree_of b) m m' a) where
  -- the root's diagram is the root function's
  root_is : den m'.nodes a.root ≡ diagram_of (events (tree_of b)) 0 (root_fun (tree_of b).gates)
  root_is =
      let (ordered, reduced) = lent_good d.node_table.lent d.node_table.unique a.root d.node_table.lent.root_in in
      sym (diagram_of_lem (events (tree_of b)) (den m'.nodes a.root) (root_fun (tree_of b).gates) ordered reduced (root_function d (read_sound b l).some_gate))

  module _ {A L H L' H' : List ℕ} {number place lo hi : ℕ} where
    lower : Bracketed (events (tree_of b)) m'.nodes a.nodes a.root A number place lo hi L H L' H' → number ≡ 0
        → lo ≡ low billion (chance_in A) (diagram_of (events (tree_of b)) 0 (root_fun (tree_of b).gates))
    lower (Bracketed.no_diagram h r) q = absurd (let w = r.number_is in omega arith)
    lower (Bracketed.too_short v h r) q = absurd (let w = r.number_is in omega arith)
    lower (Bracketed.no_chance v e h r) q = absurd (let w = r.number_is in omega arith)
    lower (Bracketed.done v e p r) q = r.low_is ∙ ap (λ (x : Diagram). low billion (chance_in A) x) root_is

    upper : Bracketed (events (tree_of b)) m'.nodes a.nodes a.root A number place lo hi L H L' H' → number ≡ 0
        → hi ≡ high billion (chance_in A) (diagram_of (events (tree_of b)) 0 (root_fun (tree_of b).gates))
    upper (Bracketed.no_diagram h r) q = absurd (let w = r.number_is in omega arith)
    upper (Bracketed.too_short v h r) q = absurd (let w = r.number_is in omega arith)
    upper (Bracketed.no_chance v e h r) q = absurd (let w = r.number_is in omega arith)
    upper (Bracketed.done v e p r) q = r.high_is ∙ ap (λ (x : Diagram). high billion (chance_in A) x) root_is

  -- no cut has more members than there are events
  none_larger : (k : ℕ) → old_limits.events < k → cuts_of_size (tree_of b) k ≡ 0
  none_larger k h =
      let c = den m'.cuts a.cut_root in
      let o = root_ordered d.cut_table.lent in
      sym (count_is d k) ∙ count_sized (events (tree_of b)) 0 c o k ∙ sized_above c k (omega (arith, deepest_within 0 (events (tree_of b)) c o (omega arith)))

  same_answers : SameAnswers (tree_of b) m' a
  same_answers = record {
    nodes = d.node_count;
    cut_nodes = d.cut_count;
    added = d.added_list.each;
    listing = λ j. list_is_whole d j ∙ old_sets (events (tree_of b)) few (cut_list (events (tree_of b)) (root_fun (tree_of b).gates));
    one_set = old_set (events (tree_of b)) few;
    low_is = lower;
    high_is = upper;
    sizes = λ x q k h. (done_by_size d).counts x q k (omega arith);
    no_larger = none_larger;
  }

-- THE THEOREM
pub old_file : (bytes : List ℕ) (b : Book) → AreBytes bytes → outcome old_limits bytes ≡ accept b → OldFile bytes b
old_file bytes b good e = record {
  read = now;
  written = λ room h. old_writes bytes b good room e h;
  answers = λ {m} {m'} {a} x q.
      let (t, d) = finished_tree x q in
      let done : Done (tree_of b) m m' a = subst (λ (c : Book). Done (tree_of c) m m' a) (same_book bytes now t.is) d in
      same_answers b (lawful bytes b now) few done;
}
  where
    now : outcome limits bytes ≡ accept b
    now = old_reads bytes b e

    few : events (tree_of b) ≤ old_limits.events
    few = omega (arith, tree_events b, ((old_exactly bytes b).0 e).1)
