-- Taking events one after the other: the greatest count, and how the plan goes on from there.
-- Assumes nothing.
use mathlib.Core.Path.{◌≡◌, refl, sym, ap, ◌∙◌, subst}
use mathlib.Core.Logic.{◌≢◌}
use mathlib.Core.Bool.{true, false, true≢false, false≢true}
use mathlib.Core.List.{List}
use Prim.Native.Nat.{ℕ, ◌+◌, ◌≤◌, ◌<◌}
use native.Mathlib.Decide.{ℕ_discrete}
use native.Mathlib.Omega.{arith}
use lib.ListN.{length, get_or, replicate, length-replicate}
use Rattle.paper.specs.Limits.{limits}
use Rattle.paper.specs.Sets.{Set, none, put, Within}
use Rattle.paper.specs.Planner.{holding, Chosen, Plans, ends, takes}
use Rattle.paper.specs.Answers.{Beyond}
use Rattle.algebra.proofs.Base.{put_other}
use Rattle.sets.specs.Words.{words, set_of}
use Rattle.sets.proofs.Words.{empty_none}
use Rattle.remaining.specs.Families.{CutDiagram, family}
use Rattle.remaining.specs.Tallies.{Enough, Fits, TooMany, Tallied, Summed, Holding}
use Rattle.remaining.proofs.Answering.{few_events}
use Rattle.planner.specs.Taking.{Most, Taking}
use Rattle.planner.specs.Proposing.{Areas, Proposes, no_diagram, too_short, too_many, planned}
use Rattle.planner.proofs.Planning.{outside, outside_falls, fresh, counts_fall}

-- ---- the greatest count

pub most_start : (C : List ℕ) → Most C 1 0
most_start C = record { event = omega arith; most = λ i h. one i h (ℕ_discrete i 0); lowest = λ i h. absurd (omega arith) }
  where
    one : (i : ℕ) → i < 1 → Dec (i ≡ 0) → get_or C i 0 ≤ get_or C 0 0
    one i h (yes e) = let q = ap (λ x. get_or C x 0) e in omega (arith, q)
    one i h (no d) = absurd (omega (arith, h, d))

pub most_next : {C : List ℕ} {i b : ℕ} → Most C i b → get_or C b 0 < get_or C i 0 → Most C (i + 1) i
most_next {C} {i} {b} m h = record {
  event = omega arith;
  most = λ j x. one j x (ℕ_discrete j i);
  lowest = λ j x. let y = m.most j x in omega (arith, y, h);
}
  where
    one : (j : ℕ) → j < i + 1 → Dec (j ≡ i) → get_or C j 0 ≤ get_or C i 0
    one j x (yes e) = let q = ap (λ y. get_or C y 0) e in omega (arith, q)
    one j x (no d) = let y = m.most j (omega (arith, x, d)) in omega (arith, y, h)

pub most_kept : {C : List ℕ} {i b : ℕ} → Most C i b → get_or C i 0 ≤ get_or C b 0 → Most C (i + 1) b
most_kept {C} {i} {b} m h = record {
  event = let e = m.event in omega (arith, e);
  most = λ j x. one j x (ℕ_discrete j i);
  lowest = m.lowest;
}
  where
    one : (j : ℕ) → j < i + 1 → Dec (j ≡ i) → get_or C j 0 ≤ get_or C b 0
    one j x (yes e) = let q = ap (λ y. get_or C y 0) e in omega (arith, q, h)
    one j x (no d) = m.most j (omega (arith, x, d))

pub most_end : {C : List ℕ} {i n b : ℕ} → Most C i b → n ≤ i → i ≤ n → Most C n b
most_end {C} {i} {n} {b} m p q = let e : i ≡ n = omega arith in subst (λ k. Most C k b) e m

-- ---- on the way

-- the events of K are taken, the counts are of what they leave, e is the next event, and a plan from K on is the plan
pub record Going (n : ℕ) (l : List Set) (K : Set) (C : List ℕ) (e : ℕ) : Type 0 where
  pub within : Within n K
  pub counts : (i : ℕ) → i < n → get_or C i 0 ≡ holding n K l i
  pub best : Most C n e
  pub on : (R : Set) → Plans n l K R → Plans n l none R

pub going_start : {n : ℕ} {l : List Set} {K : Set} {C : List ℕ} {e : ℕ} → K ≡ none → ((i : ℕ) → i < n → get_or C i 0 ≡ holding n none l i) → Most C n e → Going n l K C e
going_start {n} {l} {K} {C} {e} q h m = record {
  within = λ i x. ap (λ A. A i) q;
  counts = λ i x. h i x ∙ sym (ap (λ A. holding n A l i) q);
  best = m;
  on = λ R p. subst (λ A. Plans n l A R) q p;
}

module _ {n : ℕ} {l : List Set} {K : Set} {C : List ℕ} {e : ℕ} (g : Going n l K C e) where
  inside : e < n
  inside = g.best.event

  chosen : get_or C e 0 ≢ 0 → Chosen n K l e
  chosen h =
      let he = g.counts e inside in
      record {
        event = inside;
        some = omega (arith, h, he);
        most = λ i x. let a = g.best.most i x in let b = g.counts i x in omega (arith, a, b, he);
        lowest = λ i x. let u = inside in let a = g.best.lowest i x in let b = g.counts i (omega (arith, x, u)) in omega (arith, a, b, he);
      }

  pub going_new : get_or C e 0 ≢ 0 → K e ≡ false
  going_new h = fresh n l K e inside (chosen h).some

  module _ {K' : Set} (h : get_or C e 0 ≢ 0) (q : K' ≡ put e true K) where
    pub going_less : outside n 0 K' < outside n 0 K
    going_less =
        let u = inside in
        let f = outside_falls n 0 e K (omega arith) (omega (arith, u)) (going_new h) in
        let s = ap (outside n 0) q in
        omega (arith, f, s)

    pub going_within : Within n K'
    going_within i x = ap (λ A. A i) q ∙ put_other e true K i (λ w. let u = inside in omega (arith, w, x, u)) ∙ g.within i x

    pub going_next : {C' : List ℕ} {e' : ℕ} → ((i : ℕ) → i < n → get_or C' i 0 ≡ holding n K' l i) → Most C' n e' → Going n l K' C' e'
    going_next {C'} {e'} c m = record {
      within = going_within;
      counts = c;
      best = m;
      on = λ R p. g.on R (takes e (chosen h) (subst (λ A. Plans n l A R) q p));
    }

  pub going_end : get_or C e 0 ≡ 0 → Plans n l none K
  going_end z = g.on K (ends (λ i x. let a = g.best.most i x in let b = g.counts i x in omega (arith, a, b, z)))

-- ---- what the counting answered

no_set : (ws : List ℕ) → ws ≡ replicate words 0 → set_of ws ≡ none
no_set ws q = ap set_of q ∙ empty_none words

pub not_beyond : {n : ℕ} {K : Set} → Within n K → Beyond n K → ⊥
not_beyond w b = true≢false (sym b.is ∙ w b.event b.above)

pub fits_still : {n : ℕ} (l : List Set) (K : Set) → Fits n none l → Fits n K l
fits_still {n} l K f e h = let a = f e h in let b = counts_fall n none K e (λ i k. absurd (false≢true k)) l in omega (arith, a, b)

pub enough_still : {n : ℕ} {T : List ℕ} {C₀ B₀ W₀ C B W : List ℕ} → Enough n T C₀ B₀ W₀ → length C ≡ length C₀ → B ≡ B₀ → W ≡ W₀ → Enough n T C B W
enough_still e p q r =
    let a = e.counts in
    let b = e.below in
    let d = e.ways in
    let x = ap length q in
    let y = ap length r in
    record { counts = omega (arith, a, p); below = omega (arith, b, x); ways = omega (arith, d, y) }

module _ {n : ℕ} {T : List ℕ} {c root : ℕ} {ws : List ℕ} {number place : ℕ} {C B W C' B' W' : List ℕ} where
  -- where no refusal is due it counted
  pub tallied_of : Holding n T c root ws number place C B W C' B' W' → CutDiagram n T c root → Enough n T C B W → (Beyond n (set_of ws) → ⊥) → Fits n (set_of ws) (family T root)
      → Tallied n (set_of ws) (family T root) number place C B W C' B' W'
  tallied_of (Holding.no_diagram x r) d h b f = absurd (x d)
  tallied_of (Holding.too_short v x r) d h b f = absurd (x h)
  tallied_of (Holding.beyond v g x r) d h b f = absurd (b x)
  tallied_of (Holding.summed v g x (Summed.over m s)) d h b f = let y = m.larger in let z = f m.event m.inside in absurd (omega (arith, y, z))
  tallied_of (Holding.summed v g x (Summed.exact f' t)) d h b f = t

  module _ (empty : ws ≡ replicate words 0) where
    -- a refusal of the counting of all cuts is the planner's
    pub plan_refused : Holding n T c root ws number place C B W C' B' W' → limits.events ≤ length C → number ≢ 0 → Proposes n T c root number 0 (replicate words 0) B W B' W'
    plan_refused (Holding.no_diagram x u) long h = no_diagram x (record { number_is = u.number_is; no_place = refl; empty_set = refl; below = u.below; ways = u.ways })
    plan_refused (Holding.too_short v x u) long h =
        let few = few_events v in
        too_short v (λ a. x (record { counts = omega (arith, few, long); below = a.below; ways = a.ways }))
        (record { number_is = u.number_is; no_place = refl; empty_set = refl; below = u.below; ways = u.ways })
    plan_refused (Holding.beyond v g x u) long h = absurd (false≢true (sym (ap (λ A. A x.event) (no_set ws empty)) ∙ x.is))
    plan_refused (Holding.summed v g x (Summed.over m s)) long h =
        too_many v (record { below = g.below; ways = g.ways }) (subst (λ A. TooMany n A (family T root)) (no_set ws empty) m)
        (record { number_is = s.number_is; no_place = refl; empty_set = refl; below = s.below; ways = s.ways })
    plan_refused (Holding.summed v g x (Summed.exact f t)) long h = absurd (h t.number_is)

    -- number 0: the taking can start
    pub plan_start : Holding n T c root ws number place C B W C' B' W' → number ≡ 0 → Taking n T c root C' B' W' × Areas T B W
    plan_start (Holding.no_diagram x u) q = let w = u.number_is in absurd (omega (arith, w, q))
    plan_start (Holding.too_short v x u) q = let w = u.number_is in absurd (omega (arith, w, q))
    plan_start (Holding.beyond v g x u) q = let w = u.number_is in absurd (omega (arith, w, q))
    plan_start (Holding.summed v g x (Summed.over m s)) q = let w = s.number_is in absurd (omega (arith, w, q))
    plan_start (Holding.summed v g x (Summed.exact f t)) q =
        let b : length B' ≡ length B = ap length t.below ∙ length-replicate {A = ℕ} (length B) 0 in
        let w : length W' ≡ length W = ap length t.ways ∙ length-replicate {A = ℕ} (length W) 0 in
        let gc = g.counts in
        let gb = g.below in
        let gw = g.ways in
        let tl = t.long in (
          record {
            diagram = v;
            enough = record { counts = omega (arith, gc, tl); below = omega (arith, gb, b); ways = omega (arith, gw, w) };
            fits = subst (λ A. Fits n A (family T root)) (no_set ws empty) f;
            counts = λ e h. t.counts e h ∙ ap (λ A. holding n A (family T root) e) (no_set ws empty);
            zero_below = t.below ∙ ap (λ k. replicate k 0) (sym b);
            zero_ways = t.ways ∙ ap (λ k. replicate k 0) (sym w);
          },
          record { below = gb; ways = gw },
        )

    pub plan_done : {set B'' W'' : List ℕ} → Holding n T c root ws number place C B W C' B' W' → number ≡ 0
        → (length set ≡ words) × Plans n (family T root) none (set_of set) × (B'' ≡ B') × (W'' ≡ W') → Proposes n T c root 0 0 set B W B'' W''
    plan_done {set} {B''} {W''} h q r =
        let (s, a) = plan_start h q in
        planned s.diagram a s.fits (record {
          number_is = refl;
          no_place = refl;
          long = r.0;
          plan = r.1;
          below = r.2 ∙ s.zero_below ∙ ap (λ k. replicate k 0) (long_below h);
          ways = r.3 ∙ s.zero_ways ∙ ap (λ k. replicate k 0) (long_ways h);
        })
      where
        long_below : Holding n T c root ws number place C B W C' B' W' → length B' ≡ length B
        long_below (Holding.no_diagram x u) = ap length u.below
        long_below (Holding.too_short v x u) = ap length u.below
        long_below (Holding.beyond v g x u) = ap length u.below
        long_below (Holding.summed v g x (Summed.over m s)) = ap length s.below ∙ length-replicate {A = ℕ} (length B) 0
        long_below (Holding.summed v g x (Summed.exact f t)) = ap length t.below ∙ length-replicate {A = ℕ} (length B) 0

        long_ways : Holding n T c root ws number place C B W C' B' W' → length W' ≡ length W
        long_ways (Holding.no_diagram x u) = ap length u.ways
        long_ways (Holding.too_short v x u) = ap length u.ways
        long_ways (Holding.beyond v g x u) = ap length u.ways
        long_ways (Holding.summed v g x (Summed.over m s)) = ap length s.ways ∙ length-replicate {A = ℕ} (length W) 0
        long_ways (Holding.summed v g x (Summed.exact f t)) = ap length t.ways ∙ length-replicate {A = ℕ} (length W) 0
