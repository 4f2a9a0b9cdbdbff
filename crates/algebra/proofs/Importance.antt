-- The two numbers of an event enclose the difference that the event makes, each less than 2L away.
-- Assumes nothing.
use mathlib.Core.Path.{◌≡◌, refl, sym, ap, ap₂, ◌∙◌, fun_ext}
use mathlib.Core.Logic.{◌≢◌, ite}
use mathlib.Core.Bool.{Bool, true, false, cond, not, Bool-discrete, true≢false, false≢true}
use mathlib.Core.List.{List, [], ◌∷◌, map}
use Prim.Native.Nat.{ℕ, zero, suc, ◌+◌, ◌*◌, ◌-◌, ◌^◌, ◌≤◌, ◌<◌}
use native.Mathlib.Nat.{mul-le-mul_right, le_of_mul-le-mul_right, add-sub_of_le, mul-pos, pow-zero, pow-suc}
use native.Mathlib.Omega.{arith}
use lib.Dec.{eqb, leb}
use borrow.Author.Tests.{eqb-false, leb-true, leb-false}
use Rattle.paper.specs.Lists.{keep, sum}
use Rattle.paper.specs.Sets.{Set, put, Part, all_sets}
use Rattle.paper.specs.Functions.{Fun, fix_f, table, table_discrete, depends, depends_on, Depends, Monotone}
use Rattle.paper.specs.Diagrams.{Diagram, leaf, node, eval, Ordered, diagram_of}
use Rattle.paper.specs.Chance.{weight, total, low, high, stands, standing, Brackets}
use Rattle.algebra.proofs.Base.{put_other}
use Rattle.algebra.proofs.Lists.{bool_iff, map_agree}
use Rattle.algebra.proofs.Trim.{trim, trim_all, trim_at}
use Rattle.algebra.proofs.Fix.{eval_agree}
use Rattle.algebra.proofs.Sets.{not_true}
use Rattle.algebra.proofs.Without.{Fit}
use Rattle.algebra.proofs.Bracket.{bracket}
use Rattle.algebra.proofs.Depends.{differ, stands_not, depends_test, standing_depends}
use Rattle.paper.specs.Importance.{importance_low, importance_high, certain, low_of, high_of, Encloses, ranking}
use Rattle.algebra.proofs.Restrict.{diagram_ordered, fixed_diagram, restricted_low, restricted_high, total_certain}
use Rattle.algebra.proofs.Ranking.{rank_same}

-- ---- more failing sets, a greater sum

kept_le : (w : Set → ℕ) (F G : Fun) → ((S : Set) → F S ≡ true → G S ≡ true) → (l : List Set) → sum (map w (keep F l)) ≤ sum (map w (keep G l))
kept_le w F G h [] = omega arith
kept_le w F G h (S ∷ l) = go (F S) (G S) (h S) (kept_le w F G h l)
  where
    go : (x y : Bool) → (x ≡ true → y ≡ true) → sum (map w (keep F l)) ≤ sum (map w (keep G l))
        → sum (map w (cond x (S ∷ keep F l) (keep F l))) ≤ sum (map w (cond y (S ∷ keep G l) (keep G l)))
    go true true q r = omega arith
    go true false q r = absurd (false≢true (q refl))
    go false true q r = omega arith
    go false false q r = r

pub total_le : (D : ℕ) (a : ℕ → ℕ) (k m : ℕ) (F G : Fun) → ((S : Set) → F S ≡ true → G S ≡ true) → total D a k m F ≤ total D a k m G
unfolding total
total_le D a k m F G h = kept_le (weight D a k m) F G h (all_sets k m)

pow_pos : (D : ℕ) → 0 < D → (k : ℕ) → 0 < D ^ k
pow_pos D D0 zero = rw (pow-zero D) (omega arith)
pow_pos D D0 (suc k) = rw (pow-suc D k) (mul-pos (pow_pos D D0 k) D0)

put_grows : (i : ℕ) (v : Set) → Part (put i false v) (put i true v)
put_grows i v j h = go (eqb j i) h
  where
    go : (b : Bool) → cond b false (v j) ≡ true → cond b true (v j) ≡ true
    go true q = refl
    go false q = q

-- ---- the test of dependence says what it means

test_depends : (n : ℕ) (F : Fun) (i : ℕ) → depends n F i ≡ true → Depends F i
test_depends n F i h = go (table_discrete (table n (fix_f i true F)) (table n (fix_f i false F))) h
  where
    go : (t : Dec (table n (fix_f i true F) ≡ table n (fix_f i false F))) → not (ite t true false) ≡ true → Depends F i
    go (yes e) q = absurd (false≢true q)
    go (no e) q = differ (fix_f i true F) (fix_f i false F) (all_sets n 0) e

-- ---- the difference, on plain numbers: two brackets with one L

difference : (D k P Q L l₁ h₁ l₂ h₂ : ℕ) → Brackets D k P L l₁ h₁ → Brackets D k Q L l₂ h₂ → Q ≤ P → 0 < D ^ k → Encloses D k P Q L (l₁ - h₂) (h₁ - l₂)
difference D k P Q L l₁ h₁ l₂ h₂ p q le pos = record {
  under = under;
  over = omega (arith, p.over, q.under, whole);
  near_under = λ z. omega (arith, p.near_under z, q.near_over z, few);
  near_over = λ z. omega (arith, p.near_over z, q.near_under z, whole);
}
  where
    -- l₂ D^k ≤ Q ≤ P ≤ h₁ D^k
    above : l₂ ≤ h₁
    above = le_of_mul-le-mul_right {k = D ^ k} (omega (arith, q.under, p.over)) pos

    whole : l₂ * D ^ k + (h₁ - l₂) * D ^ k ≡ h₁ * D ^ k
    whole = omega (arith, ap (λ n. n * D ^ k) (add-sub_of_le above))

    few : l₁ * D ^ k ≤ h₂ * D ^ k + (l₁ - h₂) * D ^ k
    few = let h : l₁ ≤ h₂ + (l₁ - h₂) = omega arith in omega (arith, mul-le-mul_right (D ^ k) h)

    under : (l₁ - h₂) * D ^ k + Q ≤ P
    under = go (leb l₁ h₂) refl
      where
        go : (b : Bool) → leb l₁ h₂ ≡ b → (l₁ - h₂) * D ^ k + Q ≤ P
        go true t =
            let z : l₁ - h₂ ≡ 0 = omega (arith, leb-true l₁ h₂ t) in
            rw z (omega arith)
        go false t =
            let z : h₂ + (l₁ - h₂) ≡ l₁ = omega (arith, leb-false l₁ h₂ t) in
            omega (arith, ap (λ n. n * D ^ k) z, p.under, q.over)

-- ---- of a diagram

module _ (D : ℕ) (a : ℕ → ℕ) (D0 : 0 < D) (k : ℕ) (chances : (i : ℕ) → i < suc k → a i ≤ D) (d : Diagram) (o : Ordered 0 (suc k) d) (mono : Monotone (eval d)) (i : ℕ) (il : i < suc k) where
  -- the chances with the event failed or sound are chances
  fair : (b : Bool) (j : ℕ) → j < suc k → certain D a i b j ≤ D
  fair b j h = go (eqb j i) b
    where
      go : (t b : Bool) → cond t (cond b D 0) (a j) ≤ D
      go true true = omega arith
      go true false = omega arith
      go false b = chances j h

  -- the bracket with the event failed or sound: L is the unrestricted root's
  one : (b : Bool) → Brackets D k (total D (certain D a i b) (suc k) 0 (eval d)) (standing (suc k) 0 d) (low D (certain D a i b) d) (high D (certain D a i b) d)
  one b = bracket D (certain D a i b) D0 k (fair b) d o

  -- the exact sum with the event failed is no less than with it sound
  rises : total D (certain D a i false) (suc k) 0 (eval d) ≤ total D (certain D a i true) (suc k) 0 (eval d)
  rises = rw (total_certain D a i false (suc k) 0 (eval d) (omega arith) (omega arith) (chances i il), total_certain D a i true (suc k) 0 (eval d) (omega arith) (omega arith) (chances i il))
      (total_le D a (suc k) 0 (fix_f i false (eval d)) (fix_f i true (eval d)) (λ S h. mono (put i false S) (put i true S) (put_grows i S) h))

  -- an event that the root does not depend on makes no difference
  level : stands i d ≡ false → total D (certain D a i true) (suc k) 0 (eval d) ≡ total D (certain D a i false) (suc k) 0 (eval d)
  level q =
      total_certain D a i true (suc k) 0 (eval d) (omega arith) (omega arith) (chances i il)
      ∙ ap (total D a (suc k) 0) (fun_ext (λ v. same v))
      ∙ sym (total_certain D a i false (suc k) 0 (eval d) (omega arith) (omega arith) (chances i il))
    where
      same : (v : Set) → eval d (put i true v) ≡ eval d (put i false v)
      same v = stands_not d i true v q ∙ sym (stands_not d i false v q)

  -- THE ENCLOSURE on the diagram
  pub encloses_of : Encloses D k (total D (certain D a i true) (suc k) 0 (eval d)) (total D (certain D a i false) (suc k) 0 (eval d)) (standing (suc k) 0 d) (low_of D a d i) (high_of D a d i)
  unfolding low_of high_of
  encloses_of = go (stands i d) refl
    where
      P : ℕ
      P = total D (certain D a i true) (suc k) 0 (eval d)

      Q : ℕ
      Q = total D (certain D a i false) (suc k) 0 (eval d)

      L : ℕ
      L = standing (suc k) 0 d

      go : (b : Bool) → stands i d ≡ b → Encloses D k P Q L (cond b (low D (certain D a i true) d - high D (certain D a i false) d) 0) (cond b (high D (certain D a i true) d - low D (certain D a i false) d) 0)
      go true q = difference D k P Q L (low D (certain D a i true) d) (high D (certain D a i true) d) (low D (certain D a i false) d) (high D (certain D a i false) d) (one true) (one false) rises (pow_pos D D0 k)
      go false q = let e : P ≡ Q = level q in record {
        under = omega arith;
        over = omega arith;
        near_under = λ z. omega (arith, room z);
        near_over = λ z. omega (arith, room z);
      }
        where
          room : 0 < L → 0 < 2 * L * D ^ k
          room z = mul-pos (omega arith) (pow_pos D D0 k)

  -- the numbers are in order
  pub low_high : low_of D a d i ≤ high_of D a d i
  low_high = le_of_mul-le-mul_right {k = D ^ k} (omega (arith, encloses_of.under, encloses_of.over)) (pow_pos D D0 k)

-- ---- of a built root

module _ (D : ℕ) (a : ℕ → ℕ) (D0 : 0 < D) (k : ℕ) (chances : (i : ℕ) → i < suc k → a i ≤ D) (d : Diagram) (fit : Fit (suc k) 0 d) (i : ℕ) (il : i < suc k) where
  -- THE REQUEST'S NUMBERS are those of the diagram with one chance replaced
  fixed_low : (b : Bool) → low D a (diagram_of (suc k) 0 (fix_f i b (eval d))) ≡ low D (certain D a i b) d
  fixed_low b = restricted_low D (suc k) a D0 chances d (diagram_of (suc k) 0 (fix_f i b (eval d))) fit.ordered
      (diagram_ordered (suc k) 0 (suc k) (omega arith) (fix_f i b (eval d))) i b (fixed_diagram (suc k) d i b fit.ordered)

  fixed_high : (b : Bool) → high D a (diagram_of (suc k) 0 (fix_f i b (eval d))) ≡ high D (certain D a i b) d
  fixed_high b = restricted_high D (suc k) a D0 chances d (diagram_of (suc k) 0 (fix_f i b (eval d))) fit.ordered
      (diagram_ordered (suc k) 0 (suc k) (omega arith) (fix_f i b (eval d))) i b (fixed_diagram (suc k) d i b fit.ordered)

  tells : depends (suc k) (eval d) i ≡ stands i d
  tells = depends_test (suc k) d i fit.ordered fit.reduced

  pub importance_low_lem : importance_low D a (suc k) (eval d) i ≡ low_of D a d i
  unfolding importance_low low_of
  importance_low_lem = rw (tells, fixed_low true, fixed_high false)

  pub importance_high_lem : importance_high D a (suc k) (eval d) i ≡ high_of D a d i
  unfolding importance_high high_of
  importance_high_lem = rw (tells, fixed_high true, fixed_low false)

-- ---- in the request's own words: F is a function of n = k + 1 events, shown by an ordered reduced monotone diagram

module _ (D : ℕ) (a : ℕ → ℕ) (D0 : 0 < D) (k : ℕ) (chances : (i : ℕ) → i < suc k → a i ≤ D) (d : Diagram) (F : Fun) (fit : Fit (suc k) 0 d) (shows : eval d ≡ F) (i : ℕ) (il : i < suc k) where
  -- THE DIFFERENCE: the sums of F with event i failed and with it sound; L is the number of events that F depends on
  pub importance_encloses : Encloses D k (total D a (suc k) 0 (fix_f i true F)) (total D a (suc k) 0 (fix_f i false F)) (depends_on (suc k) F) (importance_low D a (suc k) F i) (importance_high D a (suc k) F i)
  importance_encloses = rw (
    ← shows,
    ← standing_depends (suc k) d fit.ordered fit.reduced,
    importance_low_lem D a D0 k chances d fit i il,
    importance_high_lem D a D0 k chances d fit i il,
    ← total_certain D a i true (suc k) 0 (eval d) (omega arith) (omega arith) (chances i il),
    ← total_certain D a i false (suc k) 0 (eval d) (omega arith) (omega arith) (chances i il),
  )
      (encloses_of D a D0 k chances d fit.ordered fit.mono i il)

  -- an event that F does not depend on gets 0 twice
  pub importance_none : (Depends F i → ⊥) → (importance_low D a (suc k) F i ≡ 0) × (importance_high D a (suc k) F i ≡ 0)
  unfolding importance_low importance_high
  importance_none h = let q : depends (suc k) F i ≡ false = not_true (depends (suc k) F i) (λ t. h (test_depends (suc k) F i t)) in (rw q, rw q)

-- THE RANKING by the request's low numbers is that by the diagram's
pub importance_rank : (D : ℕ) (a : ℕ → ℕ) → 0 < D → (k : ℕ) → ((i : ℕ) → i < suc k → a i ≤ D) → (d : Diagram) (F : Fun) → Fit (suc k) 0 d → eval d ≡ F
    → ranking (low_of D a d) (suc k) 0 ≡ ranking (importance_low D a (suc k) F) (suc k) 0
importance_rank D a D0 k chances d F fit shows = rank_same (low_of D a d) (importance_low D a (suc k) F) (suc k)
    (λ i h. sym (ap (λ G. importance_low D a (suc k) G i) (sym shows) ∙ importance_low_lem D a D0 k chances d fit i h))
