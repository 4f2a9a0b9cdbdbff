-- From a reading to the analysis' answer.
-- Assumes nothing.
use mathlib.Core.Path.{◌≡◌, refl, sym, ap, ◌∙◌, subst}
use mathlib.Core.List.{List}
use Prim.Native.Nat.{ℕ, ◌<◌}
use native.Mathlib.Omega.{arith}
use lib.ListN.{length}
use Rattle.std.specs.Prelude.{Result, Ok, Err, IsErrAnd}
use Rattle.paper.specs.Limits.{limits}
use Rattle.paper.specs.declared.refusal.Refused.{Refused as Why}
use Rattle.rules.specs.Answers.{reason, said}
use Rattle.records.specs.Judge.{outcome}
use Rattle.records.specs.Memory.{in_memory}
use Rattle.records.specs.Trees.{tree_of, tree_in}
use Rattle.rules.specs.declared.Refusal.{Refusal}
use Rattle.rules.specs.declared.Refusal.TheVariants.{Cut, UnknownKind, OutOfPlace, Count, Threshold, Reference, Chance, Unused, Room, Narrow, Sited}
use Rattle.records.specs.declared.Tree.{Tree}
use Rattle.memory.specs.declared.Tables.{Tables}
use Rattle.trees.proofs.Promises.{Good, done_is_good, refused_is_so}
use Rattle.memory.specs.Memory.{Memory, Lengths}
use Rattle.memory.specs.Outcome.{Refused}
use Rattle.analysis.specs.Completing.{CutsFilled}
use Rattle.analysis.specs.Filling.{WasRead, Filled, Tried}
use Rattle.analyser.specs.Analysed.{Analysed}
use Rattle.memory.specs.Analysis.{Analysis, analysis_of}
use Rattle.memory.proofs.Refusing.{refuses}
use Rattle.analysis.proofs.Reading.{read_is, read_count}

-- no refusal has number 0
pub reason_above : (a : Refusal) → 0 < (reason a).number
reason_above (Cut p) = omega arith
reason_above (UnknownKind p) = omega arith
reason_above (OutOfPlace p) = omega arith
reason_above (Count p) = omega arith
reason_above (Threshold p) = omega arith
reason_above (Reference p) = omega arith
reason_above (Chance p) = omega arith
reason_above (Unused p) = omega arith
reason_above Room = omega arith
reason_above (Narrow p) = omega arith
reason_above (Sited p) = omega arith

-- refused: 1 to 8 or 21, the reading's own number and place
pub says_so : (w : Why) (a : Refusal) → said w ≡ reason a → Refused (reason a) (analysis_of (Err w))
says_so w a q = subst (λ v. Refused v (analysis_of (Err w))) q (refuses w.why w.place)

module _ (bytes : List ℕ) where
  pub reading_refused : {a : Refusal} → Err a ≡ in_memory (outcome limits bytes) → (r : Result Tables Why) → IsErrAnd r (λ w. said w ≡ reason a) → (m : Memory) → Analysed bytes m m (analysis_of r)
  reading_refused e (Ok t) h m = absurd h
  reading_refused {a} e (Err w) h m = Analysed.bad_tree a (refused_is_so bytes e) (says_so w a h) refl

  -- accepted: the tree in memory was read
  module _ {t : Tree} (e : Ok t ≡ in_memory (outcome limits bytes)) where
    abbrev good : Good bytes t
    good = done_is_good bytes e

    abbrev pub reading_done : WasRead t
    reading_done = record { book = good.book; is = good.tree; lawful = good.lawful }

    same_tree : tree_in t ≡ tree_of good.book
    same_tree = read_is reading_done

    same_count : length (tree_of good.book).gates ≡ t.gate_count
    same_count = ap (λ x. length x.gates) (sym same_tree) ∙ read_count reading_done

    pub reading_tried : {m m' : Memory} {a : Analysis} → Tried t m m' a → Analysed bytes m m' a
    reading_tried {m} (Tried.bad_length h f k) = Analysed.bad_length good.book good.accepted (λ l. h (subst (λ x. Lengths x m) same_count l)) f k
    reading_tried {m} {m'} {a} (Tried.filled l f) = go (subst (λ x. Filled x m m' a) same_tree f)
      where
        long : Lengths (length (tree_of good.book).gates) m
        long = subst (λ x. Lengths x m) (sym same_count) l

        go : Filled (tree_of good.book) m m' a → Analysed bytes m m' a
        go (Filled.nodes_full g h x y) = Analysed.nodes_full good.book g good.accepted long h x y
        go (Filled.nodes_fit h (CutsFilled.cuts_full i x y)) = Analysed.cuts_full good.book good.accepted long h i x y
        go (Filled.nodes_fit h (CutsFilled.done i d)) = Analysed.done good.book good.accepted long h i d
