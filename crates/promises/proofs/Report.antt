-- THE REPORT on the cut table of a done analysis: the reportable cuts of its diagram, for the tree's own chances, are the tree's reportable minimal cuts.
-- Assumes nothing.
use mathlib.Core.Path.{◌≡◌, refl, sym, ap, ap₂, ◌∙◌, subst, fun_ext}
use mathlib.Core.Logic.{◌≢◌, ◌↔◌}
use mathlib.Core.Bool.{Bool, true, false, cond, ◌&&◌, ◌||◌, false≢true}
use mathlib.Core.List.{List}
use Prim.Native.Nat.{ℕ, zero, suc, ◌+◌, ◌*◌, ◌^◌, ◌≤◌, ◌<◌}
use native.Mathlib.Omega.{arith}
use lib.Dec.{leb, eqb}
use lib.ListN.{length}
use Rattle.paper.specs.Limits.{limits, billion}
use Rattle.paper.specs.Lists.{In, keep}
use Rattle.paper.specs.Sets.{Set, Within}
use Rattle.paper.specs.Trees.{Tree, events, root_fun}
use Rattle.paper.specs.Cuts.{MinimalCut, cut_list}
use Rattle.paper.specs.Order.{Sorted}
use Rattle.paper.specs.Listing.{sets_bytes, longest_cut}
use Rattle.paper.specs.Reports.{size, product, edge, short, is_edition, reportable}
use Rattle.algebra.proofs.Lists.{keep_in}
use Rattle.algebra.proofs.Promises.{sorted_all_once}
use Rattle.algebra.proofs.Reports.{reportable_is, edition_law, report_one, report_in, report_sorted}
use Rattle.algebra.proofs.Without.{sets_beyond}
use Rattle.tables.specs.Table.{den}
use Rattle.tables.proofs.Lent.{root_ordered}
use Rattle.records.specs.Judge.{Book}
use Rattle.records.specs.Trees.{Lawful, tree_of}
use Rattle.trees.proofs.Lawful.{lawful}
use Rattle.sidebyside.proofs.Telling.{bytes_tell}
use Rattle.walk.specs.After.{to_list}
use Rattle.listing.specs.Answers.{GoodStart}
use Rattle.bracket.specs.Bracketed.{chance_in, Chances}
use Rattle.review.specs.Hopes.{worth}
use Rattle.report.specs.Answers.{to_report, Enough, Answered}
use Rattle.report.specs.Joined.{Joined}
use Rattle.report.proofs.Join.{goes_on, join_all}
use Rattle.memory.specs.Memory.{Memory}
use Rattle.memory.specs.Outcome.{Done}
use Rattle.memory.specs.Analysis.{Analysis}
use Rattle.analysis.specs.Completing.{Sound}
use Rattle.analysis.proofs.Reading.{read_sound}
use Rattle.analyser.specs.Analysed.{Analysed}
use Rattle.promises.specs.Delivers.{Own}
use Rattle.promises.specs.Reasons.{Accepted}
use Rattle.promises.specs.Report.{reportable_of, report_of, Reportables, Reports}
use Rattle.promises.proofs.OnTables.{own_chances, cuts_exactly, cuts_sorted}
use Rattle.promises.proofs.Serving.{never_short, of_family, last_good}
use Rattle.promises.proofs.Which.{finished_tree}

-- ---- only the chances of the tree's events count

product_same : (a b : ℕ → ℕ) (k m : ℕ) (S : Set) → ((i : ℕ) → i < m + k → a i ≡ b i) → product a k m S ≡ product b k m S
product_same a b zero m S h = refl
product_same a b (suc k) m S h = ap₂ (λ x p. cond (S m) x 1 * p) (h m (omega arith)) (product_same a b k (suc m) S (λ i l. h i (omega arith)))

reportable_same : (a b : ℕ → ℕ) (n r : ℕ) → ((i : ℕ) → i < n → a i ≡ b i) → reportable billion a n r ≡ reportable billion b n r
reportable_same a b n r h = fun_ext (λ S.
    reportable_is billion a n r S
    ∙ ap (λ p. leb (size n 0 S) 2 || (eqb r 2 && leb (edge * billion ^ size n 0 S) (p * billion))) (product_same a b n 0 S (λ i l. h i (omega arith)))
    ∙ sym (reportable_is billion b n r S))

own_worth : {t : Tree} {A : List ℕ} → Own t A → (r : ℕ) → worth r A (events t) ≡ reportable_of t r
own_worth {t} {A} o r = reportable_same (chance_in A) (chance_in t.chances) (events t) r o.each

-- ---- the calls

module _ {t : Tree} {m m' : Memory} {a : Analysis} (d : Done t m m' a) where
  module _ {r : ℕ} {A : List ℕ} {begin : Bool} {ws room room' F F' W W' : List ℕ} {edition number place count used : ℕ} {last : List ℕ} {finished : Bool} where
    report_takes : Answered r (events t) m'.cuts a.cut_nodes a.cut_root A begin ws room room' F F' W W' edition number place count used last finished → number ≢ 12
    report_takes (Answered.no_edition k x z) q = let w = x.is in omega arith
    report_takes (Answered.no_diagram k h x z) q = h d.cut_table.lent
    report_takes (Answered.too_short k v h x z) q = let w = x.is in omega arith
    report_takes (Answered.no_chance k v e h x z) q = let w = x.is in omega arith
    report_takes (Answered.beyond k v e p b i x z) q = let w = x.is in omega arith
    report_takes (Answered.short k v e p ok s x z) q = let w = x.is in omega arith
    report_takes (Answered.done k v e p ok s x z) q = let w = x.is in omega arith

    report_fair : Answered r (events t) m'.cuts a.cut_nodes a.cut_root A begin ws room room' F F' W W' edition number place count used last finished → Chances (events t) A → number ≢ 7
    report_fair (Answered.no_edition k x z) c q = let w = x.is in omega arith
    report_fair (Answered.no_diagram k h x z) c q = let w = x.is in omega arith
    report_fair (Answered.too_short k v h x z) c q = let w = x.is in omega arith
    report_fair (Answered.no_chance k v e h x z) c q = h c
    report_fair (Answered.beyond k v e p b i x z) c q = let w = x.is in omega arith
    report_fair (Answered.short k v e p ok s x z) c q = let w = x.is in omega arith
    report_fair (Answered.done k v e p ok s x z) c q = let w = x.is in omega arith

    report_answers : Answered r (events t) m'.cuts a.cut_nodes a.cut_root A begin ws room room' F F' W W' edition number place count used last finished
        → is_edition r ≡ true → Enough (events t) m'.cuts A F W → Chances (events t) A → GoodStart (events t) begin ws → longest_cut (events t) ≤ length room → number ≡ 0
    report_answers (Answered.no_edition k x z) y e c g l = absurd (false≢true (sym k ∙ y))
    report_answers (Answered.no_diagram k h x z) y e c g l = absurd (h d.cut_table.lent)
    report_answers (Answered.too_short k v h x z) y e c g l = absurd (h e)
    report_answers (Answered.no_chance k v n h x z) y e c g l = absurd (h c)
    report_answers (Answered.beyond k v n p b i x z) y e c g l = absurd (g b i)
    report_answers (Answered.short k v n p ok s x z) y e c g l = absurd (never_short (events t) (length room) (to_report r A (events t) (den m'.cuts a.cut_root) begin ws) l s)
    report_answers (Answered.done k v n p ok s x z) y e c g l = x.is

  -- the edition is named, and the last set is a start that the next call takes
  module _ {r : ℕ} {A : List ℕ} {begin : Bool} {ws room room' F F' W W' : List ℕ} {edition place count used : ℕ} {last : List ℕ} {finished : Bool} where
    report_hands_on : Answered r (events t) m'.cuts a.cut_nodes a.cut_root A begin ws room room' F F' W W' edition 0 place count used last finished → (edition ≡ r) × GoodStart (events t) false last
    report_hands_on (Answered.no_edition k x z) = absurd (let e = x.is in omega arith)
    report_hands_on (Answered.no_diagram k h x z) = absurd (let e = x.is in omega arith)
    report_hands_on (Answered.too_short k v h x z) = absurd (let e = x.is in omega arith)
    report_hands_on (Answered.no_chance k v e h x z) = absurd (let e = x.is in omega arith)
    report_hands_on (Answered.beyond k v e p b i x z) = absurd (let e = x.is in omega arith)
    report_hands_on (Answered.short k v e p ok s x z) = absurd (let e = x.is in omega arith)
    report_hands_on (Answered.done k v e p ok s x z) = (
      x.names,
      last_good (events t) begin ws last (length room) (to_report r A (events t) (den m'.cuts a.cut_root) begin ws)
          (λ S h. sets_beyond 0 (events t) (den m'.cuts a.cut_root) S (root_ordered v) (of_family (events t) (den m'.cuts a.cut_root) begin ws S (keep_in (worth r A (events t)) S (to_list (events t) (den m'.cuts a.cut_root) begin ws) h).0))
          ok x.last_set,
    )

  -- THE REPORT, in rooms of any sizes, is the bytes of the reportable minimal cuts
  module _ {r : ℕ} {A ws bytes : List ℕ} (j : Joined r (events t) m'.cuts a.cut_nodes a.cut_root A true ws bytes) (o : Own t A) where
    report_whole : bytes ≡ sets_bytes (events t) (report_of t r)
    report_whole = join_all j ∙ ap₂ (λ (R : Set → Bool) (l : List Set). sets_bytes (events t) (keep R l)) (own_worth o r) d.cuts_are

    -- and these are the bytes of no other sets
    report_no_other : (l : List Set) → ((S : Set) → In S l → Within (events t) S) → bytes ≡ sets_bytes (events t) l → l ≡ report_of t r
    report_no_other l w e = bytes_tell (events t) l (report_of t r) w within (sym e ∙ report_whole)
      where
        within : (S : Set) → In S (report_of t r) → Within (events t) S
        within S h = sets_beyond 0 (events t) (den m'.cuts a.cut_root) S (root_ordered d.cut_table.lent)
            (subst (In S) (sym d.cuts_are) (keep_in (reportable_of t r) S (cut_list (events t) (root_fun t.gates)) h).0)

  -- ---- the reportable cuts of a sound tree

  done_reportables : Sound t → Reportables t
  done_reportables s =
      let l = cut_list (events t) (root_fun t.gates) in
      let sorted : (r : ℕ) → Sorted (report_of t r) = λ r. report_sorted billion (chance_in t.chances) (events t) r l (subst Sorted d.cuts_are (cuts_sorted d s)) in
      record {
        cuts = λ r S.
            let (to, from) = report_in billion (chance_in t.chances) (events t) r l S in
            let (exact, back) = subst (λ (k : List Set). In S k ↔ MinimalCut (root_fun t.gates) S) d.cuts_are (cuts_exactly d s S) in
            ((λ h. (exact (to h).0, (to h).1)), λ h. from (back h.0, h.1));
        sorted = sorted;
        once = λ r. sorted_all_once (report_of t r) (sorted r);
        editions = edition_law billion (chance_in t.chances) (events t);
        among = report_one billion (chance_in t.chances) (events t) l;
      }

-- ---- of a tree that was read

module _ (b : Book) (l : Lawful limits b) {m m' : Memory} {a : Analysis} (d : Done (tree_of b) m m' a) where
  fair : {A : List ℕ} → Own (tree_of b) A → Chances (events (tree_of b)) A
  fair o = record { each = λ e h. subst (λ k. k ≤ billion) (sym (o.each e h)) (own_chances b l e h) }

  pub done_reports : Reports (tree_of b) m' a
  done_reports = record {
    takes = λ x. report_takes d x;
    takes_own = λ x o. report_fair d x (fair o);
    answers = λ x k o p q s r. report_answers d x k (record { chances = o.enough; few = p; picks = q }) (fair o) s r;
    goes_on = λ x. let (e, s) = report_hands_on d x in (e, s, λ q. goes_on x q);
    whole = λ j o. report_whole d j o;
    no_other = λ j o l w e. report_no_other d j o l w e;
    reportables = done_reportables d (read_sound b l);
  }

-- THE PROMISE
pub reports : {bytes : List ℕ} {m m' : Memory} {a : Analysis} → Analysed bytes m m' a → a.number ≡ 0 → (t : Accepted bytes) × Reports (tree_of t.book) m' a
reports {bytes} x q = let (t, d) = finished_tree x q in (t, done_reports t.book (lawful bytes t.book t.is) d)
