-- From a reading and a store to the answer.
-- Assumes nothing.
use mathlib.Core.Path.{◌≡◌, refl, sym, ap, ◌∙◌, subst}
use mathlib.Core.Logic.{◌≢◌}
use mathlib.Core.List.{List}
use Prim.Native.Nat.{ℕ}
use native.Mathlib.Omega.{arith}
use lib.ListN.{length}
use Rattle.std.specs.Prelude.{Result, Ok, Err, IsErrAnd}
use Rattle.paper.specs.Limits.{limits}
use Rattle.paper.specs.Refusals.{number}
use Rattle.paper.specs.declared.refusal.Refused.{Refused as Why}
use Rattle.paper.proofs.Refusals.{number_above}
use Rattle.paper.specs.Trees.{events}
use Rattle.paper.specs.Trees as paper
use Rattle.paper.specs.Answers.{Verdict}
use Rattle.paper.specs.Store.{Settings, accepted, judge_store, settings_of}
use Rattle.paper.specs.Forcing.{force_tree}
use Rattle.rules.specs.Answers.{reason, said}
use Rattle.records.specs.Judge.{outcome}
use Rattle.records.specs.Memory.{in_memory}
use Rattle.records.specs.Trees.{tree_of, tree_in}
use Rattle.rules.specs.declared.Refusal.{Refusal}
use Rattle.memory.specs.declared.Tables.{Tables}
use Rattle.records.specs.declared.Tree.{Tree}
use Rattle.trees.proofs.Promises.{Good, done_is_good, refused_is_so}
use Rattle.memory.specs.Memory.{Memory, Lengths}
use Rattle.memory.specs.Outcome.{Refused, at}
use Rattle.memory.specs.Analysis.{Analysis, analysis_of}
use Rattle.memory.proofs.Refusing.{refuses}
use Rattle.analysis.specs.Completing.{CutsFilled}
use Rattle.analysis.specs.Filling.{WasRead, Filled, Tried}
use Rattle.analysis.proofs.Reading.{read_is, read_count}
use Rattle.analyser.proofs.Outcomes.{says_so}
use Rattle.forcing.specs.Codes.{force_in}
use Rattle.forcing.proofs.Trees.{gates_long}
use Rattle.seasons.specs.Seasons.{AnalysedTree, AnalysedUnder}
use Rattle.seasons.specs.Steps.{TriedUnder}
use Rattle.seasons.proofs.InMemory.{count_forced, filled_forced, read_events}

-- ---- of a tree in memory

refused_as : {v : Verdict} (w : Why) → at (number w.why) w.place ≡ v → Refused v (analysis_of (Err w))
refused_as {v} w q = subst (λ v. Refused v (analysis_of (Err w))) q (refuses w.why w.place)

module _ (t : Tree) (store : List ℕ) (asked : ℕ) where
  pub store_refused : (w : Why) → at (number w.why) w.place ≡ judge_store t.event_count store → (m : Memory) → TriedUnder t store asked m m (analysis_of (Err w))
  store_refused w q m =
      let h = number_above w.why in
      TriedUnder.bad_store (λ e. let z = ap (λ v. v.number) q ∙ e in absurd (omega arith)) (refused_as w q) refl

  pub store_tried : judge_store t.event_count store ≡ accepted → {s : Settings} {u : Tree} → s ≡ settings_of asked store → u ≡ force_in s t → {m m' : Memory} {a : Analysis} → Tried u m m' a → TriedUnder t store asked m m' a
  store_tried z q e {m} {m'} {a} x = TriedUnder.tried z (subst (λ y. Tried y m m' a) (e ∙ ap (λ r. force_in r t) q) x)

-- ---- of a tree as the paper has it

-- its forced events as constants, in memory and out of it
tree_tried : (s : Settings) (t : Tree) → length (tree_in t).gates ≡ t.gate_count → {m m' : Memory} {a : Analysis} → Tried (force_in s t) m m' a → AnalysedTree (force_tree s (tree_in t)) m m' a
tree_tried s t count {m} {m'} {a} x = go x
  where
    same : length (force_tree s (tree_in t)).gates ≡ (force_in s t).gate_count
    same = gates_long s (tree_in t).gates ∙ count ∙ sym (count_forced s t)

    on : Lengths (force_in s t).gate_count m → Filled (force_tree s (tree_in t)) m m' a → AnalysedTree (force_tree s (tree_in t)) m m' a
    on l (Filled.nodes_full g h y z) = AnalysedTree.nodes_full g (subst (λ k. Lengths k m) (sym same) l) h y z
    on l (Filled.nodes_fit h (CutsFilled.cuts_full i y z)) = AnalysedTree.cuts_full (subst (λ k. Lengths k m) (sym same) l) h i y z
    on l (Filled.nodes_fit h (CutsFilled.done i d)) = AnalysedTree.done (subst (λ k. Lengths k m) (sym same) l) h i d

    go : Tried (force_in s t) m m' a → AnalysedTree (force_tree s (tree_in t)) m m' a
    go (Tried.bad_length h f k) = AnalysedTree.bad_length (λ l. h (subst (λ x. Lengths x m) same l)) f k
    go (Tried.filled l f) = on l (filled_forced s t f)

-- ---- of the bytes

module _ (bytes : List ℕ) where
  -- 1 to 8 or 21: the reading's own number and place
  pub under_refused : {a : Refusal} → Err a ≡ in_memory (outcome limits bytes) → (r : Result Tables Why) → IsErrAnd r (λ w. said w ≡ reason a)
      → {store : List ℕ} {asked : ℕ} (m : Memory) → AnalysedUnder bytes store asked m m (analysis_of r)
  under_refused e (Ok t) h m = absurd h
  under_refused {a} e (Err w) h m = AnalysedUnder.bad_tree a (refused_is_so bytes e) (says_so w a h) refl

  -- accepted: the tree in memory was read
  module _ {t : Tree} (e : Ok t ≡ in_memory (outcome limits bytes)) where
    abbrev good : Good bytes t
    good = done_is_good bytes e

    abbrev pub under_read : WasRead t
    under_read = record { book = good.book; is = good.tree; lawful = good.lawful }

    same_events : t.event_count ≡ events (tree_of good.book)
    same_events = read_events under_read

    pub under_tried : {store : List ℕ} {asked : ℕ} {m m' : Memory} {a : Analysis} → TriedUnder t store asked m m' a → AnalysedUnder bytes store asked m m' a
    under_tried {store} {asked} {m} {m'} {a} (TriedUnder.bad_store h f k) =
        AnalysedUnder.bad_store good.book good.accepted (subst (λ k. (judge_store k store).number ≢ 0) same_events h) (subst (λ k. Refused (judge_store k store) a) same_events f) k
    under_tried {store} {asked} {m} {m'} {a} (TriedUnder.tried h x) =
        AnalysedUnder.analysed good.book good.accepted (subst (λ k. judge_store k store ≡ accepted) same_events h)
        (subst (λ x. AnalysedTree (force_tree (settings_of asked store) x) m m' a) (read_is under_read) (tree_tried (settings_of asked store) t (read_count under_read) x))
