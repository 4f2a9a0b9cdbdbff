-- From tree to tree: what is known after i of them have passed, and how the row ends.
-- Assumes nothing.
use mathlib.Core.Path.{◌≡◌, refl, sym, ap, ap₂, ◌∙◌, subst}
use mathlib.Core.Bool.{true}
use mathlib.Core.List.{List, [], ◌∷◌, ◌++◌}
use Prim.Native.Nat.{ℕ, ◌+◌, ◌-◌, ◌≤◌, ◌<◌}
use native.Mathlib.Numerals.{add-one}
use native.Mathlib.Omega.{arith}
use lib.ListN.{length, get_or, take, drop}
use lib.Seq.{take-suc, take_all}
use Rattle.std.specs.Prelude.{Option, Some, None, Err, ok_or}
use Rattle.paper.specs.Lists.{sum}
use Rattle.paper.specs.Limits.{limits}
use Rattle.paper.specs.Refusals.{number}
use Rattle.paper.specs.declared.refusal.Refusal.{Refusal}
use Rattle.paper.specs.declared.refusal.Refusal.TheVariants.{TooMany}
use Rattle.paper.specs.declared.refusal.Refused.{Refused}
use Rattle.paper.specs.Trees.{Tree}
use Rattle.tables.specs.Table.{den}
use Rattle.tables.specs.Lent.{Lent}
use Rattle.build.proofs.Gates.{sum_next, sum_front}
use Rattle.memory.specs.Memory.{Memory}
use Rattle.memory.specs.Outcome.{at}
use Rattle.memory.specs.Analysis.{Analysis}
use Rattle.memory.proofs.Before.{SameLengths}
use Rattle.analyser.specs.Analysed.{Analysed}
use Rattle.totals.specs.Adding.{Areas, counts_of, Due}
use Rattle.totals.proofs.Adding.{due_same}
use Rattle.folder.specs.Parts.{parts}
use Rattle.folder.specs.Passing.{Passes, Refuses, AllPass}
use Rattle.folder.specs.Contract.{Lends, lends, Answers}
use Rattle.folder.specs.Steps.{Sums, due, Tried}
use Rattle.folder.specs.Gathered.{Gathered, gathered_of}
use Rattle.folder.specs.declared.RefusedTree.{RefusedTree}
use Rattle.folder.proofs.Parts.{parts_count, part_at}
use Rattle.folder.proofs.Passing.{passes_from, refuses_from, analysed_refused, analysed_passed, all_more}
use Rattle.folder.proofs.Totals.{sums_more}
use Rattle.folder.proofs.Counting.{tree_lent, tree_counts}

-- all that is lent keeps its lengths
pub record Kept (l k : Lends) : Type 0 where
  pub memory : SameLengths l.memory k.memory
  pub less : length k.less ≡ length l.less
  pub work : length k.work ≡ length l.work
  pub reached : length k.reached ≡ length l.reached

pub kept_none : (l : Lends) → Kept l l
kept_none l = record {
  memory = record { nodes = refl; cuts = refl; gates = refl; added = refl; memo = refl; heads = refl; next = refl; marks = refl; own = refl };
  less = refl;
  work = refl;
  reached = refl;
}

pub kept_on : {l k j : Lends} → Kept l k → Kept k j → Kept l j
kept_on a b = record {
  memory = record {
    nodes = b.memory.nodes ∙ a.memory.nodes;
    cuts = b.memory.cuts ∙ a.memory.cuts;
    gates = b.memory.gates ∙ a.memory.gates;
    added = b.memory.added ∙ a.memory.added;
    memo = b.memory.memo ∙ a.memory.memo;
    heads = b.memory.heads ∙ a.memory.heads;
    next = b.memory.next ∙ a.memory.next;
    marks = b.memory.marks ∙ a.memory.marks;
    own = b.memory.own ∙ a.memory.own;
  };
  less = b.less ∙ a.less;
  work = b.work ∙ a.work;
  reached = b.reached ∙ a.reached;
}

pub areas_kept : {l k : Lends} → Kept l k → Areas l.memory.cuts l.less l.work l.reached → Areas k.memory.cuts k.less k.work k.reached
areas_kept h a = record {
  less = rw (h.memory.cuts, h.less) a.less;
  work = rw (h.memory.cuts, h.work) a.work;
  reached = rw (h.memory.cuts, h.reached) a.reached;
}

-- ---- a row's answer

pub tree_says : (r : Refused) (i : ℕ) → Answers (gathered_of (Err (record { why = r.why; place = r.place; tree = i }))) (number r.why) r.place i
tree_says r i = record { number_is = refl; place_is = refl; tree_is = refl }

-- of no tree
pub none_says : {r : RefusedTree} {why : Refusal} → (r.why ≡ why) × (r.place ≡ 0) × (r.tree ≡ 0) → Answers (gathered_of (Err r)) (number why) 0 0
none_says e = record { number_is = ap number e.0; place_is = e.1; tree_is = e.2 }

-- behind the last tree
pub end_says : (so_far : Option (Unit {0})) {r : RefusedTree} → (r.why ≡ TooMany) × (r.place ≡ 0) × (r.tree ≡ 0) → Answers (gathered_of (ok_or so_far r)) (due so_far) 0 0
end_says (Some u) e = record { number_is = refl; place_is = refl; tree_is = refl }
end_says None e = none_says e

-- ---- an analysed tree

module _ {bytes : List ℕ} {m m' : Memory} {a : Analysis} (x : Analysed bytes m m' a) (z : a.number ≡ 0) where
  pub turn_lent : Lent true limits.events m'.cuts a.cut_nodes a.cut_root
  turn_lent = let (t, p, d) = analysed_passed x z in tree_lent d

  pub turn_areas : {B W R : List ℕ} → Areas m.cuts B W R → Areas m'.cuts B W R
  turn_areas s = let (t, p, d) = analysed_passed x z in let e = d.cuts_long in record { less = rw e s.less; work = rw e s.work; reached = rw e s.reached }

-- ---- tree after tree

-- i trees have passed: where the next one starts, and what is due; l is what was lent at first, and k what it has become
pub record Going (bytes lengths : List ℕ) (l k : Lends) (i start : ℕ) (L : List ℕ) (so_far : Option (Unit {0})) : Type 0 where
  pub kept : Kept l k
  pub count : i ≤ length lengths
  pub start_is : start ≡ sum (take i lengths)
  pub trees : List Tree
  pub passed : AllPass l.memory (take i (parts bytes lengths)) trees
  pub sums : Sums trees L so_far
  pub first : i ≡ 0 → k ≡ l

pub going_none : (bytes lengths : List ℕ) (l : Lends) {L : List ℕ} → Sums [] L (Some tt) → Going bytes lengths l l 0 0 L (Some tt)
going_none bytes lengths l s = record { kept = kept_none l; count = omega arith; start_is = refl; trees = []; passed = tt; sums = s; first = λ _. refl }

module _ {bytes lengths : List ℕ} {l k : Lends} {i start : ℕ} {L : List ℕ} {so_far : Option (Unit {0})} (g : Going bytes lengths l k i start L so_far) where
  -- behind the last tree
  pub going_end : {a : Gathered} → length lengths ≤ i → Answers a (due so_far) 0 0 → Tried bytes lengths l k L a
  going_end h a =
      let n : length (parts bytes lengths) ≤ i = let e = parts_count bytes lengths in omega arith in
      Tried.passed g.trees so_far (subst (λ bs. AllPass l.memory bs g.trees) (take_all i (parts bytes lengths) n) g.passed) g.sums a

  module _ (h : i < length lengths) where
    -- the next tree lies within the bytes
    pub next_in : sum lengths ≡ length bytes → start + get_or lengths i 0 ≤ length bytes
    next_in w = let a = sum_next lengths i h in let b = sum_front lengths (i + 1) in let e = g.start_is in omega arith

    next_is : take (start + get_or lengths i 0 - start) (drop start bytes) ≡ get_or (parts bytes lengths) i []
    next_is =
        let q : start + get_or lengths i 0 - start ≡ get_or lengths i 0 = omega arith in
        ap₂ (λ n s. take n (drop s bytes)) q g.start_is ∙ sym (part_at bytes lengths i h)

    inside : i < length (parts bytes lengths)
    inside = let e = parts_count bytes lengths in omega arith

    module _ {m' : Memory} {x : Analysis} (y : Analysed (take (start + get_or lengths i 0 - start) (drop start bytes)) k.memory m' x) where
      -- it is refused, with nothing changed where nothing was written
      pub going_refused : {a : Gathered} → (x.number ≡ 0 → ⊥) → Answers a x.number x.place i → Tried bytes lengths l (lends m' k.less k.work k.reached) L a
      going_refused n a =
          let (r, s) = analysed_refused y n in
          let v = at x.number x.place in
          let here : Refuses l.memory (get_or (parts bytes lengths) i []) v = subst (λ b. Refuses l.memory b v) next_is (refuses_from g.kept.memory r) in
          Tried.refused i v (record { inside = inside; trees = g.trees; before = g.passed; refused = here }) a
          (λ (z, few). ap (λ m. lends m k.less k.work k.reached) (s few) ∙ g.first z)

      -- it passes, and its counts are added or 19 is due
      pub going_more : {B W R L' : List ℕ} {r : Option (Unit {0})} → x.number ≡ 0 → Due (counts_of (den m'.cuts x.cut_root)) so_far L L' r → Kept k (lends m' B W R)
          → Going bytes lengths l (lends m' B W R) (i + 1) (start + get_or lengths i 0) L' r
      going_more z b e =
          let (t, p, d) = analysed_passed y z in
          let here : Passes l.memory (get_or (parts bytes lengths) i []) t = subst (λ b. Passes l.memory b t) next_is (passes_from g.kept.memory p) in
          let q : take (i + 1) (parts bytes lengths) ≡ take i (parts bytes lengths) ++ (get_or (parts bytes lengths) i [] ∷ []) =
          ap (λ n. take n (parts bytes lengths)) (add-one i) ∙ take-suc (parts bytes lengths) i [] inside in
          record {
            kept = kept_on g.kept e;
            count = omega arith;
            start_is = ap (λ n. n + get_or lengths i 0) g.start_is ∙ sym (sum_next lengths i h);
            trees = g.trees ++ (t ∷ []);
            passed = subst (λ bs. AllPass l.memory bs (g.trees ++ (t ∷ []))) (sym q) (all_more l.memory here (take i (parts bytes lengths)) g.trees g.passed);
            sums = sums_more t g.sums (due_same (tree_counts d) b);
            first = λ n. absurd (omega arith);
          }
