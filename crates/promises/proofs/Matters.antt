-- HOW MUCH EACH EVENT MATTERS, on the node table of a done analysis: its root denotes the root's function, and no two of its nodes are equal.
-- Assumes nothing.
use mathlib.Core.Path.{◌≡◌, sym, ◌∙◌, subst}
use mathlib.Core.Logic.{◌≢◌}
use mathlib.Core.Bool.{false}
use mathlib.Core.List.{List}
use Prim.Native.Nat.{ℕ, ◌≤◌, ◌<◌}
use native.Mathlib.Omega.{arith}
use lib.ListN.{length, get_or}
use Rattle.paper.specs.Limits.{billion}
use Rattle.paper.specs.Functions.{Depends}
use Rattle.paper.specs.Trees.{Tree, events, root_fun, TreeBelow}
use Rattle.paper.specs.Diagrams.{eval}
use Rattle.paper.specs.Chance.{stands}
use Rattle.paper.specs.Importance.{Ranks, ranking}
use Rattle.algebra.proofs.Sets.{not_true}
use Rattle.algebra.proofs.Depends.{depends_law}
use Rattle.algebra.proofs.Ranking.{rank_law, rank_unique, rank_same}
use Rattle.tables.specs.Table.{den}
use Rattle.tables.proofs.Once.{lent_good}
use Rattle.records.specs.Trees.{tree_of}
use Rattle.trees.proofs.Lawful.{lawful}
use Rattle.bracket.specs.Bracketed.{chance_in, Chances}
use Rattle.importance.specs.Weighed.{low_in, Enough, Weighed, firsts}
use Rattle.importance.proofs.Tells.{none, low_stored, rank_stored}
use Rattle.importance.proofs.OfTrees.{tree_encloses, tree_low, tree_high}
use Rattle.memory.specs.Memory.{Memory}
use Rattle.memory.specs.Outcome.{Done}
use Rattle.memory.specs.Analysis.{Analysis}
use Rattle.analysis.specs.Completing.{Sound}
use Rattle.analysis.proofs.Reading.{read_sound}
use Rattle.analyser.specs.Analysed.{Analysed}
use Rattle.promises.specs.Reasons.{Accepted}
use Rattle.promises.specs.Delivers.{Own}
use Rattle.promises.specs.Matters.{Importances, Matters}
use Rattle.promises.proofs.Promises.{root_function}
use Rattle.promises.proofs.OnTables.{own_chances}
use Rattle.promises.proofs.Which.{finished_tree}

module _ {t : Tree} {m m' : Memory} {a : Analysis} (d : Done t m m' a) {A L H R W U K L' H' R' W' U' K' : List ℕ} {number place : ℕ} where
  -- IMPORTANCE never answers 12, and answers 0 where chances, lists and areas are right
  importance_takes : Weighed (events t) m'.nodes a.nodes a.root A number place L H R W U K L' H' R' W' U' K' → number ≢ 12
  importance_takes (Weighed.no_diagram h r) q = h d.node_table.lent
  importance_takes (Weighed.too_short v h r) q = let w = r.number_is in omega arith
  importance_takes (Weighed.no_chance v e h r) q = let w = r.number_is in omega arith
  importance_takes (Weighed.done v e p r) q = let w = r.number_is in omega arith

  importance_answers : Weighed (events t) m'.nodes a.nodes a.root A number place L H R W U K L' H' R' W' U' K'
      → Enough (events t) m'.nodes A L H R W U K → Chances (events t) A → number ≡ 0
  importance_answers (Weighed.no_diagram h r) e c = absurd (h d.node_table.lent)
  importance_answers (Weighed.too_short v h r) e c = absurd (h e)
  importance_answers (Weighed.no_chance v x h r) e c = absurd (h c)
  importance_answers (Weighed.done v x p r) e c = r.number_is

  module _ (below : TreeBelow (events t) t.gates) (some : 1 ≤ length t.gates)
      (x : Weighed (events t) m'.nodes a.nodes a.root A number place L H R W U K L' H' R' W' U' K') (q : number ≡ 0) where
    shows : eval (den m'.nodes a.root) ≡ root_fun t.gates
    shows = root_function d some

    -- an event that the root does not depend on stands at no node that the root reaches
    stands_none : (i : ℕ) → (Depends (root_fun t.gates) i → ⊥) → stands i (den m'.nodes a.root) ≡ false
    stands_none i h =
        let (o, r) = lent_good d.node_table.lent d.node_table.unique a.root d.node_table.lent.root_in in
        not_true (stands i (den m'.nodes a.root)) (λ z. h (subst (λ F. Depends F i) shows ((depends_law (events t) (den m'.nodes a.root) i o r).0 z)))

    -- THE RANKING is that by the numbers in the list
    by_lows : firsts (events t) R' ≡ ranking (λ i. get_or L' i 0) (events t) 0
    by_lows = rank_stored x q ∙ rank_same (low_in m'.nodes a.root A) (λ i. get_or L' i 0) (events t) (λ i h. sym (low_stored x q i h))

    importance_numbers : Importances t (root_fun t.gates) A L' H' R'
    importance_numbers = record {
      encloses = λ i h. tree_encloses x q t.gates below d.node_table.unique shows i h;
      nothing = λ i h n. none x q i h (stands_none i n);
      low_words = λ i h. tree_low x q t.gates below d.node_table.unique shows i h;
      high_words = λ i h. tree_high x q t.gates below d.node_table.unique shows i h;
      ranks = subst (Ranks (λ i. get_or L' i 0) (events t)) (sym by_lows) (rank_law (λ i. get_or L' i 0) (events t));
      no_other = λ l r. rank_unique (λ i. get_or L' i 0) (events t) l r ∙ sym by_lows;
    }

-- ---- of any sound tree whose chances are none above D

module _ (t : Tree) (s : Sound t) (chances : (e : ℕ) → e < events t → chance_in t.chances e ≤ billion) {m m' : Memory} {a : Analysis} (d : Done t m m' a) where
  fair : {A : List ℕ} → Own t A → Chances (events t) A
  fair o = record { each = λ e h. subst (λ k. k ≤ billion) (sym (o.each e h)) (chances e h) }

  pub tree_matters : Matters t m' a
  tree_matters = record {
    takes = λ x. importance_takes d x;
    answers = λ x o e. importance_answers d x e (fair o);
    numbers = λ x q. importance_numbers d s.below s.some_gate x q;
  }

-- THE PROMISE
pub matters : {bytes : List ℕ} {m m' : Memory} {a : Analysis} → Analysed bytes m m' a → a.number ≡ 0 → (t : Accepted bytes) × Matters (tree_of t.book) m' a
matters {bytes} x q =
    let (t, d) = finished_tree x q in
    let l = lawful bytes t.book t.is in
    (t, tree_matters (tree_of t.book) (read_sound t.book l) (own_chances t.book l) d)
