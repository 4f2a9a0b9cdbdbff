-- THE LIST ALONE DECIDES, of every done analysis, also under settings: over the promise and the contracts of `list` and `decides` alone.
-- Assumes nothing.
use mathlib.Core.Path.{◌≡◌, refl, sym, ◌∙◌, subst}
use mathlib.Core.Logic.{◌⊎◌, inl, inr, ◌≢◌, ◌↔◌}
use mathlib.Core.Bool.{true, true≢false}
use mathlib.Core.List.{List, [], ◌∷◌, ◌++◌}
use Prim.Native.Nat.{ℕ}
use Rattle.paper.specs.Lists.{In, Once}
use Rattle.paper.specs.Sets.{Set}
use Rattle.paper.specs.Functions.{Fun}
use Rattle.paper.specs.Trees.{Tree, root_fun}
use Rattle.paper.specs.Cuts.{MinimalCut}
use Rattle.paper.specs.Order.{Sorted}
use Rattle.paper.specs.GoodListing.{Tells}
use Rattle.paper.specs.Store.{Settings, settings_of}
use Rattle.paper.specs.Forcing.{force_f}
use Rattle.algebra.proofs.Lists.{in_left, in_right, in_append}
use Rattle.algebra.proofs.Without.{sets_beyond}
use Rattle.sets.specs.Words.{set_of}
use Rattle.tables.specs.Table.{den}
use Rattle.tables.proofs.Lent.{root_ordered}
use Rattle.records.specs.Trees.{tree_of}
use Rattle.listing.specs.Joined.{Joined}
use Rattle.listing.proofs.Join.{join_all}
use Rattle.sidebyside.proofs.Telling.{listing_tells, tells_once}
use Rattle.decision.specs.Answers.{ContainsOne}
use Rattle.decision.proofs.Once.{twenty, thirteen, decided_by}
use Rattle.memory.specs.Memory.{Memory}
use Rattle.memory.specs.Analysis.{Analysis}
use Rattle.analyser.specs.Analysed.{Analysed}
use Rattle.seasons.specs.Seasons.{AnalysedUnder}
use Rattle.promises.specs.Reasons.{Accepted}
use Rattle.promises.specs.Delivers.{cuts_in, Delivers}
use Rattle.promises.specs.Season.{Season}
use Rattle.promises.specs.ListAlone.{ListAlone, Answers, Insured}
use Rattle.promises.proofs.Changed.{joined_lent}
use Rattle.promises.proofs.Delivers.{delivers}
use Rattle.promises.proofs.Season.{season_delivers}

-- ---- a list of a function's minimal cuts, each once

-- a set that stands once in a list is not among the others
once_apart : (before after : List Set) (C : Set) → Once (before ++ (C ∷ after)) → In C (before ++ after) → ⊥
once_apart [] after C o k = o.0 k
once_apart (B ∷ before) after C o (inl e) = o.0 (subst (λ (x : Set). In x (before ++ (C ∷ after))) e (in_right C before (C ∷ after) (inl refl)))
once_apart (B ∷ before) after C o (inr k) = once_apart before after C o.1 k

-- the others are of the list
others_in : (before after : List Set) (C T : Set) → In T (before ++ after) → In T (before ++ (C ∷ after))
others_in before after C T k = go (in_append T before after k)
  where
    go : In T before ⊎ In T after → In T (before ++ (C ∷ after))
    go (inl h) = in_left T before (C ∷ after) h
    go (inr h) = in_right T before (C ∷ after) (inr h)

-- EACH CUT IS NEEDED: it fails, and none of the others is a part of it
module _ (F : Fun) (l : List Set) (cuts : (S : Set) → In S l ↔ MinimalCut F S) (once : Once l) where
  pub each_needed : (before after : List Set) (C : Set) → l ≡ before ++ (C ∷ after) → (F C ≡ true) × (ContainsOne (before ++ after) C → ⊥)
  each_needed before after C e = (
    minimal.fails,
    (λ (T, k, p).
        let stands : In T l = subst (In T) (sym e) (others_in before after C T k) in
        let apart : T ≢ C = λ q. once_apart before after C (subst Once e once) (subst (λ (x : Set). In x (before ++ after)) q k) in
        true≢false (sym ((cuts T).0 stands).fails ∙ minimal.minimal T p apart)),
  )
    where
      minimal : MinimalCut F C
      minimal = (cuts C).0 (subst (In C) (sym e) (in_right C before (C ∷ after) (inl refl)))

-- ---- the tables of an analysis that hold the minimal cuts of F, in order, each once

module _ (F : Fun) (m : Memory) (a : Analysis) (cuts : (S : Set) → In S (cuts_in m a) ↔ MinimalCut F S) (sorted : Sorted (cuts_in m a)) (once : Once (cuts_in m a))
    (decide : (S : Set) → (F S ≡ true) ↔ ContainsOne (cuts_in m a) S) where
  joined_tells : {n : ℕ} {ws bytes : List ℕ} → Joined n m.cuts a.cut_nodes a.cut_root true ws bytes → Tells bytes (cuts_in m a)
  joined_tells {n} j =
      let v = joined_lent j in
      subst (λ (x : List ℕ). Tells x (cuts_in m a)) (sym (join_all j))
      (listing_tells n (cuts_in m a) v.few_events sorted (λ S h. sets_beyond 0 n (den m.cuts a.cut_root) S (root_ordered v) h))

  list_alone : {bytes : List ℕ} → Tells bytes (cuts_in m a) → ListAlone F bytes
  list_alone t = record { sets = cuts_in m a; tells = t; only = λ l u. tells_once u t; decides = decide; needs = each_needed F (cuts_in m a) cuts once }

  answered : {bytes : List ℕ} → Tells bytes (cuts_in m a) → Answers F bytes
  answered t = record {
    not_bad = λ x q. (twenty x).0 q (record { sets = cuts_in m a; tells = t });
    beyond = λ x. ((λ q. ((thirteen x).0 q).1), λ b. (thirteen x).1 (record { sets = cuts_in m a; tells = t }, b));
    answers = λ {ws = ws} x w. let (z, s) = decided_by x (cuts_in m a) t w in (z, ((λ h. (decide (set_of ws)).1 (s.0 h)), λ h. s.1 ((decide (set_of ws)).0 h)));
  }

  pub cuts_insured : Insured F m a
  cuts_insured = record {
    alone = λ j. list_alone (joined_tells j);
    same = λ j j'. (joined_tells j).bytes ∙ sym (joined_tells j').bytes;
    decided = λ j. answered (joined_tells j);
  }

pub delivers_insured : {t : Tree} {m : Memory} {a : Analysis} → Delivers t m a → Insured (root_fun t.gates) m a
delivers_insured {t} {m} {a} d = let f = d.faithful in cuts_insured (root_fun t.gates) m a f.cuts f.sorted f.once f.decide

-- the root of a tree under settings is the root with the forced events fixed
pub season_insured : {s : Settings} {t : Tree} {m : Memory} {a : Analysis} → Season s t m a → Insured (force_f s (root_fun t.gates)) m a
season_insured {m = m} {a = a} d = subst (λ (F : Fun). Insured F m a) (sym d.delivers.faithful.root ∙ d.root) (delivers_insured d.delivers)

-- THE PROMISE
pub insured : {bytes : List ℕ} {m m' : Memory} {a : Analysis} → Analysed bytes m m' a → a.number ≡ 0 → (t : Accepted bytes) × Insured (root_fun (tree_of t.book).gates) m' a
insured x q = let (t, d) = delivers x q in (t, delivers_insured d)

-- and under settings
pub insured_season : {bytes store : List ℕ} {asked : ℕ} {m m' : Memory} {a : Analysis} → AnalysedUnder bytes store asked m m' a → a.number ≡ 0
    → (t : Accepted bytes) × Insured (force_f (settings_of asked store) (root_fun (tree_of t.book).gates)) m' a
insured_season x q = let (t, d) = season_delivers x q in (t, season_insured d)
