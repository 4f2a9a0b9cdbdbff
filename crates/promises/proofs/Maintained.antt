-- THE PLANNER ON A DONE ANALYSIS: the family of its cut table is that of the root's minimal cuts, and these decide the root's function.
-- Assumes nothing.
use mathlib.Core.Path.{◌≡◌, sym, ap, ◌∙◌, subst}
use mathlib.Core.Logic.{◌≢◌, ◌↔◌}
use mathlib.Core.Bool.{Bool, true, false, false≢true}
use mathlib.Core.List.{List}
use Prim.Native.Nat.{ℕ, ◌<◌}
use native.Mathlib.Omega.{arith}
use lib.ListN.{get_or}
use Rattle.std.specs.Prelude.{Result, Ok, Err}
use Rattle.paper.specs.Limits.{limits}
use Rattle.paper.specs.Sets.{Set, none}
use Rattle.paper.specs.Trees.{Tree, events, TreeBelow}
use Rattle.paper.specs.Sizes.{largest}
use Rattle.paper.specs.Answers.{Beyond}
use Rattle.paper.specs.Refusals.{number}
use Rattle.paper.specs.declared.refusal.Refusal.{Refusal}
use Rattle.paper.specs.Planner.{Accepted as Allowed, Decides, holding, plan_of}
use Rattle.algebra.proofs.Promises.{list_decides, root_shows}
use Rattle.sets.specs.Words.{set_of}
use Rattle.remaining.specs.Families.{family}
use Rattle.remaining.specs.FirstCut.{Room, Finds, Missing}
use Rattle.remaining.specs.Tallies.{TooMany, Summed, Holding}
use Rattle.remaining.proofs.Once.{both_sides}
use Rattle.planner.specs.Saying.{says}
use Rattle.planner.specs.Checking.{Refusing, Checks}
use Rattle.planner.specs.Judged.{Tells}
use Rattle.planner.specs.Proposing.{Areas, Proposes}
use Rattle.planner.specs.declared.Judgement.{Judgement}
use Rattle.planner.specs.declared.Judgement.TheVariants.{Accepts, Misses, Drops}
use Rattle.planner.proofs.Safety.{never_accepted, empty_accepted}
use Rattle.planner.proofs.Right.{check_right, accepts_exactly, right_once, plan_computed, plan_keeps}
use Rattle.records.specs.Trees.{tree_of}
use Rattle.trees.proofs.Lawful.{lawful}
use Rattle.memory.specs.Memory.{Memory}
use Rattle.memory.specs.Outcome.{Done}
use Rattle.memory.specs.Analysis.{Analysis}
use Rattle.analysis.proofs.Reading.{read_sound}
use Rattle.analyser.specs.Analysed.{Analysed}
use Rattle.promises.specs.Reasons.{Accepted}
use Rattle.promises.specs.Maintained.{root_of, cuts_of, Uncounted, Maintained}
use Rattle.promises.proofs.Which.{finished_tree}

module _ {t : Tree} {m m' : Memory} {a : Analysis} (d : Done t m m' a) (below : TreeBelow (events t) t.gates) where
  -- THE BRIDGE: the family of the cut table's root is the list of the minimal cuts
  cuts_are : family m'.cuts a.cut_root ≡ cuts_of t
  unfolding family
  cuts_are = d.cuts_are

  -- and it decides the root's function
  decides : Decides (family m'.cuts a.cut_root) (root_of t)
  decides = subst (λ l. Decides l (root_of t)) (sym cuts_are) (let r = root_shows (events t) t.gates below in list_decides (events t) _ (root_of t) r.0 r.1)

  module _ (ws cut W W' : List ℕ) where
    checker_takes : (j : Result Judgement Refusal) → Checks (events t) m'.cuts a.cut_nodes a.cut_root ws j cut W W' → (says j).number ≢ 12
    checker_takes (Err why) (Refusing.no_diagram e x) q = x.because d.cut_table.lent
    checker_takes (Err why) (Refusing.too_short e x) q = let w = ap number e in omega (arith, w, q)
    checker_takes (Err why) (Refusing.beyond e x) q = let w = ap number e in omega (arith, w, q)
    checker_takes (Ok Accepts) x q = omega arith
    checker_takes (Ok Misses) x q = omega arith
    checker_takes (Ok (Drops e)) x q = omega arith

    checker_right : (j : Result Judgement Refusal) → Checks (events t) m'.cuts a.cut_nodes a.cut_root ws j cut W W' → Tells (root_of t) (events t) (set_of ws) (cuts_of t) j (set_of cut)
    checker_right j x = subst (λ l. Tells (root_of t) (events t) (set_of ws) l j (set_of cut)) cuts_are (check_right (events t) m'.cuts a.cut_nodes a.cut_root ws cut W W' (root_of t) decides j x)

    -- accepted by the root's function; no set is if it always fails, and the empty one is exactly if it can't fail
    checker_accepts : (j : Result Judgement Refusal) → Checks (events t) m'.cuts a.cut_nodes a.cut_root ws j cut W W' → Room m'.cuts W → (Beyond (events t) (set_of ws) → ⊥)
        → (j ≡ (Ok Accepts)) ↔ Allowed (root_of t) (set_of ws)
    checker_accepts j x r w = accepts_exactly (events t) m'.cuts a.cut_nodes a.cut_root ws cut W W' (root_of t) decides (record { diagram = d.cut_table.lent; room = r; within = w }) j x

    accepts_none : (j : Result Judgement Refusal) → Checks (events t) m'.cuts a.cut_nodes a.cut_root ws j cut W W' → root_of t none ≡ true → j ≢ (Ok Accepts)
    accepts_none j x q e = never_accepted (root_of t) (set_of ws) q (checker_right (Ok Accepts) (subst (λ v. Checks (events t) m'.cuts a.cut_nodes a.cut_root ws v cut W W') e x))

    accepts_empty : (j : Result Judgement Refusal) → Checks (events t) m'.cuts a.cut_nodes a.cut_root ws j cut W W' → Room m'.cuts W → set_of ws ≡ none
        → (j ≡ (Ok Accepts)) ↔ ((S : Set) → root_of t S ≡ false)
    accepts_empty j x r e =
        let (to, from) = checker_accepts j x r within in
        let (never, back) = empty_accepted (root_of t) in
        ((λ q. never (subst (Allowed (root_of t)) e (to q))), λ h. from (subst (Allowed (root_of t)) (sym e) (back h)))
      where
        within : Beyond (events t) (set_of ws) → ⊥
        within b = false≢true (sym (ap (λ K. K b.event) e) ∙ b.is)

  uncounted : TooMany (events t) none (family m'.cuts a.cut_root) → Uncounted t
  uncounted x = record { event = x.event; inside = x.inside; above = subst (λ l. largest < holding (events t) none l x.event) cuts_are x.larger }

  counted_not : Uncounted t → TooMany (events t) none (family m'.cuts a.cut_root)
  counted_not u = record { event = u.event; inside = u.inside; larger = subst (λ l. largest < holding (events t) none l u.event) (sym cuts_are) u.above }

  module _ {number place : ℕ} {set B W B' W' : List ℕ} where
    planner_takes : Proposes (events t) m'.cuts a.cut_nodes a.cut_root number place set B W B' W' → number ≢ 12
    planner_takes (Proposes.no_diagram h p) q = h d.cut_table.lent
    planner_takes (Proposes.too_short v h p) q = let w = p.number_is in omega (arith, w, q)
    planner_takes (Proposes.too_many v r h p) q = let w = p.number_is in omega (arith, w, q)
    planner_takes (Proposes.planned v r h p) q = let w = p.number_is in omega (arith, w, q)

    nineteen_then : Proposes (events t) m'.cuts a.cut_nodes a.cut_root number place set B W B' W' → number ≡ 19 → Uncounted t
    nineteen_then (Proposes.no_diagram h p) q = let w = p.number_is in absurd (omega (arith, w, q))
    nineteen_then (Proposes.too_short v h p) q = let w = p.number_is in absurd (omega (arith, w, q))
    nineteen_then (Proposes.too_many v r h p) q = uncounted h
    nineteen_then (Proposes.planned v r h p) q = let w = p.number_is in absurd (omega (arith, w, q))

    nineteen_when : Areas m'.cuts B W → Proposes (events t) m'.cuts a.cut_nodes a.cut_root number place set B W B' W' → Uncounted t → number ≡ 19
    nineteen_when e (Proposes.no_diagram h p) u = absurd (h d.cut_table.lent)
    nineteen_when e (Proposes.too_short v h p) u = absurd (h e)
    nineteen_when e (Proposes.too_many v r h p) u = p.number_is
    nineteen_when e (Proposes.planned v r h p) u = absurd (both_sides (family m'.cuts a.cut_root) h (counted_not u))

  first_of : {ws : List ℕ} {number place : ℕ} {found : Bool} {cut W W' : List ℕ} → Missing (events t) m'.cuts a.cut_nodes a.cut_root ws number place found cut W W' → number ≡ 0
      → Finds (events t) (set_of ws) (cuts_of t) found cut
  first_of (Missing.no_diagram h p) q = let w = p.number_is in absurd (omega (arith, w, q))
  first_of (Missing.too_short v h p) q = let w = p.number_is in absurd (omega (arith, w, q))
  first_of (Missing.beyond v r h p) q = let w = p.number_is in absurd (omega (arith, w, q))
  first_of {ws} {found = found} {cut} (Missing.searched v r h p) q = subst (λ l. Finds (events t) (set_of ws) l found cut) cuts_are p.finds

  module _ (ws : List ℕ) {number place : ℕ} {C B W C' B' W' : List ℕ} (e : ℕ) (inside : e < events t) where
    summed_of : Summed (events t) (set_of ws) (family m'.cuts a.cut_root) number place C B W C' B' W' → number ≡ 0 → get_or C' e 0 ≡ holding (events t) (set_of ws) (cuts_of t) e
    summed_of (Summed.over h p) q = let w = p.number_is in absurd (omega (arith, w, q))
    summed_of (Summed.exact h p) q = p.counts e inside ∙ ap (λ l. holding (events t) (set_of ws) l e) cuts_are

    counts_of : Holding (events t) m'.cuts a.cut_nodes a.cut_root ws number place C B W C' B' W' → number ≡ 0 → get_or C' e 0 ≡ holding (events t) (set_of ws) (cuts_of t) e
    counts_of (Holding.no_diagram h p) q = let w = p.number_is in absurd (omega (arith, w, q))
    counts_of (Holding.too_short v h p) q = let w = p.number_is in absurd (omega (arith, w, q))
    counts_of (Holding.beyond v r h p) q = let w = p.number_is in absurd (omega (arith, w, q))
    counts_of (Holding.summed v r h p) q = summed_of p q

  pub done_maintained : Maintained t m' a
  done_maintained = record {
    takes = checker_takes;
    right = checker_right;
    accepts = checker_accepts;
    one_right = λ K S T. right_once (root_of t) (events t) K (cuts_of t) S T;
    always_fails = accepts_none;
    empty_set = accepts_empty;
    plan_takes = λ x. planner_takes x;
    plans = λ x q. plan_computed x q ∙ ap (plan_of (events t)) cuts_are;
    keeps = λ x q. plan_keeps (root_of t) decides x q;
    nineteen = λ x e. (nineteen_then x, nineteen_when e x);
    finds = λ x q. first_of x q;
    counts = λ {ws} x q e h. counts_of ws e h x q;
  }

-- THE PROMISE
pub maintained : {bytes : List ℕ} {m m' : Memory} {a : Analysis} → Analysed bytes m m' a → a.number ≡ 0 → (t : Accepted bytes) × Maintained (tree_of t.book) m' a
maintained {bytes} x q = let (t, d) = finished_tree x q in (t, done_maintained d (read_sound t.book (lawful bytes t.book t.is)).below)
