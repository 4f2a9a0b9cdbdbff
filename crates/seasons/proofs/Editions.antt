-- AN EDITION'S ANSWER STAYS when records of editions above it are added; with an empty store the answer is that of `analyse`.
-- Assumes nothing.
use mathlib.Core.Path.{◌≡◌, sym, ap, ◌∙◌, subst}
use mathlib.Core.Logic.{◌↔◌}
use mathlib.Core.Bool.{false}
use mathlib.Core.List.{List, []}
use Prim.Native.Nat.{ℕ}
use lib.ListN.{length}
use Rattle.paper.specs.Limits.{limits}
use Rattle.paper.specs.Trees.{events}
use Rattle.paper.specs.Store.{entries, torn, accepted, judge_store, settings_of}
use Rattle.paper.specs.Forcing.{chances_under, force_tree}
use Rattle.records.specs.Judge.{Book, accept, outcome}
use Rattle.records.specs.Trees.{tree_of}
use Rattle.memory.specs.Memory.{Memory}
use Rattle.memory.specs.Analysis.{Analysis}
use Rattle.analyser.specs.Analysed.{Analysed}
use Rattle.settings.specs.States.{ChancesForced, Added}
use Rattle.settings.proofs.Editions.{settings_stay, judgement_stays, empty_accepted, empty_free}
use Rattle.forcing.proofs.Trees.{free_tree}
use Rattle.seasons.specs.Seasons.{AnalysedTree, tree_under, AnalysedUnder}

-- ---- two stores that an edition can't tell apart, both good for the tree

module _ (bytes one other : List ℕ) (asked : ℕ) (same : settings_of asked one ≡ settings_of asked other)
    (fine : (b : Book) → outcome limits bytes ≡ accept b → judge_store (events (tree_of b)) one ≡ accepted)
    (fine' : (b : Book) → outcome limits bytes ≡ accept b → judge_store (events (tree_of b)) other ≡ accepted) {m m' : Memory} {a : Analysis} where
  told : AnalysedUnder bytes one asked m m' a → AnalysedUnder bytes other asked m m' a
  told (AnalysedUnder.bad_tree w p r k) = AnalysedUnder.bad_tree w p r k
  told (AnalysedUnder.bad_store b p z r k) = absurd (z (ap (λ v. v.number) (fine b p)))
  told (AnalysedUnder.analysed b p j x) = AnalysedUnder.analysed b p (fine' b p) (subst (λ s. AnalysedTree (force_tree s (tree_of b)) m m' a) same x)

-- THE ANSWER STAYS: the new store is the old one with records of editions above the asked one added, wherever, and is good for the tree
pub answer_stays : (bytes old new : List ℕ) (asked : ℕ) → torn old ≡ false → Added asked (entries old) (entries new)
    → ((b : Book) → outcome limits bytes ≡ accept b → judge_store (events (tree_of b)) new ≡ accepted) → {m m' : Memory} {a : Analysis}
    → AnalysedUnder bytes old asked m m' a ↔ AnalysedUnder bytes new asked m m' a
answer_stays bytes old new asked whole added fine =
    let same : settings_of asked old ≡ settings_of asked new = settings_stay asked old new added in
    let before : (b : Book) → outcome limits bytes ≡ accept b → judge_store (events (tree_of b)) old ≡ accepted = λ b p. judgement_stays (events (tree_of b)) asked old new whole added (fine b p) in
    (told bytes old new asked same before fine, told bytes new old asked (sym same) fine before)

-- so do the chances under the edition
module _ {C : List ℕ} {C' : List ℕ} {number place : ℕ} where
  chances_told : (one other : List ℕ) (asked : ℕ) → settings_of asked one ≡ settings_of asked other → judge_store (length C) one ≡ accepted → judge_store (length C) other ≡ accepted
      → ChancesForced one asked C C' number place → ChancesForced other asked C C' number place
  chances_told one other asked same fine fine' (ChancesForced.bad_store z g e) = absurd (z (ap (λ v. v.number) fine))
  chances_told one other asked same fine fine' (ChancesForced.too_many j l g e) = ChancesForced.too_many fine' l g e
  chances_told one other asked same fine fine' (ChancesForced.done j l g e) = ChancesForced.done fine' l g (e ∙ ap (λ s. chances_under s C) same)

  pub chances_stay : (old new : List ℕ) (asked : ℕ) → torn old ≡ false → Added asked (entries old) (entries new) → judge_store (length C) new ≡ accepted
      → ChancesForced old asked C C' number place ↔ ChancesForced new asked C C' number place
  chances_stay old new asked whole added fine =
      let same : settings_of asked old ≡ settings_of asked new = settings_stay asked old new added in
      let before : judge_store (length C) old ≡ accepted = judgement_stays (length C) asked old new whole added fine in
      (chances_told old new asked same before fine, chances_told new old asked (sym same) fine before)

-- ---- an empty store

pub empty_under : (asked : ℕ) (b : Book) → tree_under asked [] b ≡ tree_of b
empty_under asked b = ap (λ s. force_tree s (tree_of b)) (empty_free asked) ∙ free_tree (tree_of b)

module _ {bytes : List ℕ} {m m' : Memory} {a : Analysis} where
  on_tree : (b : Book) → outcome limits bytes ≡ accept b → AnalysedTree (tree_of b) m m' a → Analysed bytes m m' a
  on_tree b p (AnalysedTree.bad_length l r k) = Analysed.bad_length b p l r k
  on_tree b p (AnalysedTree.nodes_full g l f r k) = Analysed.nodes_full b g p l f r k
  on_tree b p (AnalysedTree.cuts_full l f g r k) = Analysed.cuts_full b p l f g r k
  on_tree b p (AnalysedTree.done l f g d) = Analysed.done b p l f g d

  to_empty : (asked : ℕ) (b : Book) → outcome limits bytes ≡ accept b → AnalysedTree (tree_of b) m m' a → AnalysedUnder bytes [] asked m m' a
  to_empty asked b p x = AnalysedUnder.analysed b p (empty_accepted (events (tree_of b))) (subst (λ t. AnalysedTree t m m' a) (sym (empty_under asked b)) x)

  -- TO THE LAST NUMBER what `analyse` allows, and no more
  pub empty_base : (asked : ℕ) → AnalysedUnder bytes [] asked m m' a ↔ Analysed bytes m m' a
  empty_base asked = (to, from)
    where
      to : AnalysedUnder bytes [] asked m m' a → Analysed bytes m m' a
      to (AnalysedUnder.bad_tree w p r k) = Analysed.bad_tree w p r k
      to (AnalysedUnder.bad_store b p z r k) = absurd (z (ap (λ v. v.number) (empty_accepted (events (tree_of b)))))
      to (AnalysedUnder.analysed b p j x) = on_tree b p (subst (λ t. AnalysedTree t m m' a) (empty_under asked b) x)

      from : Analysed bytes m m' a → AnalysedUnder bytes [] asked m m' a
      from (Analysed.bad_tree w p r k) = AnalysedUnder.bad_tree w p r k
      from (Analysed.bad_length b p l r k) = to_empty asked b p (AnalysedTree.bad_length l r k)
      from (Analysed.nodes_full b g p l f r k) = to_empty asked b p (AnalysedTree.nodes_full g l f r k)
      from (Analysed.cuts_full b p l f g r k) = to_empty asked b p (AnalysedTree.cuts_full l f g r k)
      from (Analysed.done b p l f g d) = to_empty asked b p (AnalysedTree.done l f g d)
