-- The two passes of the counting: how many sets of each node miss K, from the lowest node up; and from the root down how many ways lead to each.
-- Assumes nothing.
use mathlib.Core.Path.{◌≡◌, refl, sym, ap, ap₂, ◌∙◌, subst}
use mathlib.Core.Logic.{◌≢◌}
use mathlib.Core.Bool.{true, false, cond}
use mathlib.Core.List.{List}
use Prim.Native.Nat.{ℕ, zero, suc, ◌+◌, ◌-◌, ◌*◌, ◌≤◌, ◌<◌}
use native.Mathlib.Decide.{ℕ_discrete}
use native.Mathlib.Omega.{arith}
use lib.Dec.{eqb}
use lib.ListN.{length, get_or, set, replicate, length-set, length-replicate}
use Rattle.paper.specs.Limits.{limits}
use lib.Seq.{get_or-set_same, get_or-set_other}
use borrow.Author.Tests.{eq-eqb, ne_eqb}
use Rattle.paper.specs.Sets.{Set}
use Rattle.paper.specs.Diagrams.{Diagram, leaf, node, Ordered}
use Rattle.paper.specs.Sizes.{largest}
use Rattle.tables.specs.Table.{den}
use Rattle.tables.proofs.Den.{den_0, den_1}
use Rattle.algebra.proofs.Base.{eqb_same, cond_same}
use Rattle.remaining.specs.Recursion.{count_missing, count_holding}
use Rattle.remaining.specs.Nodes.{Reads}
use Rattle.remaining.specs.Counting.{capped, value, many_at, Stored, Counted, weigh, Spreading, Held, Written}
use Rattle.remaining.proofs.Caps.{cap_add, cap_mul, cap_read}

-- ---- two words for each number

pub stored : (A : List ℕ) (i low high : ℕ) → 2 * i + 1 < length A → Stored A i (value low high) (set (set A (2 * i) low) (2 * i + 1) high)
stored A i low high h = record {
  here = ap₂ value
      (get_or-set_other (set A (2 * i) low) (2 * i + 1) (2 * i) high 0 (λ q. omega (arith, q)) ∙ get_or-set_same A (2 * i) low 0 (omega arith))
      (get_or-set_same (set A (2 * i) low) (2 * i + 1) high 0 (let q = length-set A (2 * i) low in omega (arith, q, h)));
  there = λ j d. ap₂ value
      (get_or-set_other (set A (2 * i) low) (2 * i + 1) (2 * j) high 0 (λ q. omega (arith, q)) ∙ get_or-set_other A (2 * i) (2 * j) low 0 (λ q. d (omega (arith, q))))
      (get_or-set_other (set A (2 * i) low) (2 * i + 1) (2 * j + 1) high 0 (λ q. d (omega (arith, q))) ∙ get_or-set_other A (2 * i) (2 * j + 1) low 0 (λ q. omega (arith, q)));
  long = length-set (set A (2 * i) low) (2 * i + 1) high ∙ length-set A (2 * i) low;
}

-- ---- the pass upwards

cap_0 : capped 0 ≡ 0
unfolding capped
cap_0 = omega arith

cap_1 : capped 1 ≡ 1
unfolding capped
cap_1 = omega arith

count_0 : (T : List ℕ) (K : Set) → count_missing K (den T 0) ≡ 0
unfolding count_missing
count_0 T K = ap (count_missing K) (den_0 T)

count_1 : (T : List ℕ) (K : Set) → count_missing K (den T 1) ≡ 1
unfolding count_missing
count_1 T K = ap (count_missing K) (den_1 T)

count_node : {n : ℕ} {T : List ℕ} {i e f s : ℕ} (K : Set) → Reads n T i e f s → count_missing K (den T i) ≡ cond (K e) 0 (count_missing K (den T f)) + count_missing K (den T s)
unfolding count_missing
count_node K r = ap (count_missing K) r.is

pub counted_start : (T : List ℕ) (K : Set) {B B' B'' : List ℕ} {v u : ℕ} → Stored B 0 v B' → v ≡ 0 → Stored B' 1 u B'' → u ≡ 1 → Counted T K B'' 2
counted_start T K {B} {B'} {B''} x p y q = record { at = go }
  where
    go : (j : ℕ) → j < 2 → many_at B'' j ≡ capped (count_missing K (den T j))
    go zero h = y.there 0 (λ q. omega (arith, q)) ∙ x.here ∙ p ∙ sym (ap capped (count_0 T K) ∙ cap_0)
    go (suc zero) h = y.here ∙ q ∙ sym (ap capped (count_1 T K) ∙ cap_1)
    go (suc (suc j)) h = absurd (omega arith)

pub counted_step : {T : List ℕ} {K : Set} {B B' : List ℕ} {i v : ℕ} → Counted T K B i → Stored B i v B' → v ≡ capped (count_missing K (den T i)) → Counted T K B' (i + 1)
counted_step {T} {K} {B} {B'} {i} {v} m x q = record { at = λ j h. go j h (ℕ_discrete j i) }
  where
    go : (j : ℕ) → j < i + 1 → Dec (j ≡ i) → many_at B' j ≡ capped (count_missing K (den T j))
    go j h (yes e) = ap (many_at B') e ∙ x.here ∙ q ∙ ap (λ k. capped (count_missing K (den T k))) (sym e)
    go j h (no d) = x.there j d ∙ m.at j (omega arith)

pub counted_end : {T : List ℕ} {K : Set} {B : List ℕ} {i j : ℕ} → Counted T K B i → j ≤ i → Counted T K B j
counted_end m l = record { at = λ k h. m.at k (omega arith) }

-- a node of an event of K has the sets of its sound branch alone
pub count_kept : {n : ℕ} {T : List ℕ} {K : Set} {B : List ℕ} {i e f s v : ℕ} → Reads n T i e f s → Counted T K B i → K e ≡ true → v ≡ capped (many_at B s) → v ≡ capped (count_missing K (den T i))
count_kept {n} {T} {K} {B} {i} {e} {f} {s} {v} r m k q =
    let z : 0 + count_missing K (den T s) ≡ count_missing K (den T s) = omega arith in
    cap_read (count_missing K (den T s)) q (m.at s r.sound) ∙ sym (ap capped (count_node K r ∙ ap (λ b. cond b 0 (count_missing K (den T f)) + count_missing K (den T s)) k ∙ z))

pub count_both : {n : ℕ} {T : List ℕ} {K : Set} {B : List ℕ} {i e f s v : ℕ} → Reads n T i e f s → Counted T K B i → K e ≡ false → v ≡ capped (many_at B f + many_at B s)
    → v ≡ capped (count_missing K (den T i))
count_both {n} {T} {K} {B} {i} {e} {f} {s} {v} r m k q =
    q ∙ ap₂ (λ x y. capped (x + y)) (m.at f r.failed) (m.at s r.sound) ∙ cap_add (count_missing K (den T f)) (count_missing K (den T s))
    ∙ sym (ap capped (count_node K r ∙ ap (λ b. cond b 0 (count_missing K (den T f)) + count_missing K (den T s)) k))

-- ---- sums over numbers

-- v more at j
abbrev pub bump : (ℕ → ℕ) → ℕ → ℕ → ℕ → ℕ
bump w j v k = w k + cond (eqb k j) v 0

bump_same : (w : ℕ → ℕ) (j v : ℕ) → bump w j v j ≡ w j + v
bump_same w j v = ap (λ b. w j + cond b v 0) (eqb_same j)

bump_other : (w : ℕ → ℕ) (j v k : ℕ) → k ≢ j → bump w j v k ≡ w k
bump_other w j v k d = let q : w k + 0 ≡ w k = omega arith in ap (λ b. w k + cond b v 0) (ne_eqb k j d) ∙ q

weigh_suc : (w h : ℕ → ℕ) (k : ℕ) → weigh w h (suc k) ≡ weigh w h k + w k * h k
unfolding weigh
weigh_suc w h k = refl

weigh_above : (w h : ℕ → ℕ) (k j v : ℕ) → k ≤ j → weigh (bump w j v) h k ≡ weigh w h k
unfolding weigh
weigh_above w h zero j v l = refl
weigh_above w h (suc k) j v l = ap₂ (λ a b. a + b * h k) (weigh_above w h k j v (omega arith)) (bump_other w j v k (λ q. omega (arith, q, l)))

weigh_bump : (w h : ℕ → ℕ) (k j v : ℕ) → j < k → weigh (bump w j v) h k ≡ weigh w h k + v * h j
unfolding weigh
weigh_bump w h zero j v l = absurd (omega arith)
weigh_bump w h (suc k) j v l = go (ℕ_discrete k j) (weigh_bump w h k j v)
  where
    go : Dec (k ≡ j) → (j < k → weigh (bump w j v) h k ≡ weigh w h k + v * h j) → weigh (bump w j v) h k + bump w j v k * h k ≡ weigh w h k + w k * h k + v * h j
    go (yes e) r =
        let x = weigh_above w h k j v (omega arith) in
        let y : bump w j v k ≡ w k + v = ap (λ b. w k + cond b v 0) (eq-eqb k j e) in
        let z : bump w j v k * h k ≡ w k * h k + v * h k = ap (λ a. a * h k) y ∙ split (w k) v (h k) in
        let u : v * h k ≡ v * h j = ap (λ a. v * h a) e in
        omega (arith, x, z, u)
      where
        split : (a b c : ℕ) → (a + b) * c ≡ a * c + b * c
        split a b c = omega arith
    go (no d) r =
        let x = r (omega (arith, l, d)) in
        let z = ap (λ a. a * h k) (bump_other w j v k d) in
        omega (arith, x, z)

weigh_zero : (h : ℕ → ℕ) (k : ℕ) → weigh (λ j. 0) h k ≡ 0
unfolding weigh
weigh_zero h zero = refl
weigh_zero h (suc k) = let x = weigh_zero h k in let y : 0 * h k ≡ 0 = omega arith in omega (arith, x, y)

weigh_none : (w h : ℕ → ℕ) (k : ℕ) → ((j : ℕ) → j < k → h j ≡ 0) → weigh w h k ≡ 0
unfolding weigh
weigh_none w h zero z = refl
weigh_none w h (suc k) z =
    let x = weigh_none w h k (λ j l. z j (omega arith)) in
    let y : w k * h k ≡ 0 = ap (λ a. w k * a) (z k (omega arith)) ∙ zeros (w k) in
    omega (arith, x, y)
  where
    zeros : (a : ℕ) → a * 0 ≡ 0
    zeros a = omega arith

-- ---- the step down

holding_0 : (T : List ℕ) (K : Set) (e : ℕ) → count_holding K e (den T 0) ≡ 0
unfolding count_holding
holding_0 T K e = ap (count_holding K e) (den_0 T)

holding_1 : (T : List ℕ) (K : Set) (e : ℕ) → count_holding K e (den T 1) ≡ 0
unfolding count_holding
holding_1 T K e = ap (count_holding K e) (den_1 T)

holding_node : {n : ℕ} {T : List ℕ} {i x f s : ℕ} (K : Set) (e : ℕ) → Reads n T i x f s
    → count_holding K e (den T i) ≡ cond (K x) 0 (cond (eqb x e) (count_missing K (den T f)) (count_holding K e (den T f))) + count_holding K e (den T s)
unfolding count_holding
holding_node K e r = ap (count_holding K e) r.is

-- an event below the diagram's own is in none of its sets
holding_above : (K : Set) (e m n : ℕ) (z : Diagram) → e < m → Ordered m n z → count_holding K e z ≡ 0
unfolding count_holding
holding_above K e m n (leaf b) l o = refl
holding_above K e m n (node x f s) l o =
    rw (ne_eqb x e (λ q. omega (arith, o.0, q)), holding_above K e (suc x) n f (omega (arith, o.0)) o.2, holding_above K e (suc x) n s (omega (arith, o.0)) o.3)
    (ap (λ j. j + 0) (cond_same (K x) 0) ∙ omega arith)

-- a number that was added to a stored one
added : {A A' : List ℕ} (w : ℕ → ℕ) {s x : ℕ} (v : ℕ) → Stored A s (capped (many_at A s + x)) A' → many_at A s ≡ capped (w s) → x ≡ capped v → (j : ℕ) → many_at A j ≡ capped (w j)
    → many_at A' j ≡ capped (bump w s v j)
added {A} {A'} w {s} {x} v t p q j r = go (ℕ_discrete j s)
  where
    go : Dec (j ≡ s) → many_at A' j ≡ capped (bump w s v j)
    go (yes e) = ap (many_at A') e ∙ t.here ∙ ap₂ (λ a b. capped (a + b)) p q ∙ cap_add (w s) v ∙ sym (ap capped (ap (bump w s v) e ∙ bump_same w s v))
    go (no d) = t.there j d ∙ r ∙ sym (ap capped (bump_other w s v j d))

module _ {n : ℕ} {T : List ℕ} {K : Set} {root : ℕ} {W H : List ℕ} {i x f s : ℕ} (sp : Spreading T K root W H (i + 1)) (r : Reads n T i x f s) where
  abbrev w₁ : ℕ → ℕ
  w₁ = bump sp.ways s (sp.ways i)

  all_of : (e : ℕ) → count_holding K e (den T root) ≡ sp.met e + (weigh sp.ways (λ j. count_holding K e (den T j)) i + sp.ways i * count_holding K e (den T i))
  all_of e = let q : i + 1 ≡ suc i = omega arith in
      sp.all e ∙ ap (λ k. sp.met e + weigh sp.ways (λ j. count_holding K e (den T j)) k) q ∙ ap (λ a. sp.met e + a) (weigh_suc sp.ways (λ j. count_holding K e (den T j)) i)

  -- the sound branch alone, where the event is one of K
  pub spread_kept : {W' : List ℕ} {y : ℕ} → K x ≡ true → y ≡ capped (many_at W i) → Stored W s (capped (many_at W s + y)) W' → Spreading T K root W' H i
  spread_kept {W'} {y} k yi t = record {
    ways = w₁;
    met = sp.met;
    long = sp.long;
    ways_at = λ j h. added sp.ways (sp.ways i) t (sp.ways_at s (let z = r.sound in omega (arith, z))) (cap_read (sp.ways i) yi (sp.ways_at i (omega arith))) j (sp.ways_at j (omega arith));
    met_at = sp.met_at;
    all = λ e.
        let h : ℕ → ℕ = λ j. count_holding K e (den T j) in
        let a = all_of e in
        let z : 0 + h s ≡ h s = omega arith in
        let b : h i ≡ h s = holding_node K e r ∙ ap (λ b. cond b 0 (cond (eqb x e) (count_missing K (den T f)) (h f)) + h s) k ∙ z in
        let c = ap (λ y. sp.ways i * y) b in
        let d = weigh_bump sp.ways h i s (sp.ways i) r.sound in
        omega (arith, a, c, d);
  }

  -- both branches, and the sets of the failed one hold the event, as often as ways lead here
  pub spread_both : {B W' W'' H' : List ℕ} {y c p : ℕ} → K x ≡ false → Counted T K B i → y ≡ capped (many_at W i)
      → Stored W s (capped (many_at W s + y)) W' → Stored W' f (capped (many_at W' f + y)) W''
      → c ≡ capped (many_at B f) → p ≡ capped (y * c) → Stored H x (capped (many_at H x + p)) H' → Spreading T K root W'' H' i
  spread_both {B} {W'} {W''} {H'} {y} {c} {p} k counts yi t u cf pf v = record {
    ways = bump w₁ f (sp.ways i);
    met = bump sp.met x (sp.ways i * count_missing K (den T f));
    long = v.long ∙ sp.long;
    ways_at = λ j h. added w₁ (sp.ways i) u (at₁ f (let z = r.failed in omega (arith, z))) here j (at₁ j h);
    met_at = λ e. added sp.met (sp.ways i * count_missing K (den T f)) v (sp.met_at x) product e (sp.met_at e);
    all = one;
  }
    where
      here : y ≡ capped (sp.ways i)
      here = cap_read (sp.ways i) yi (sp.ways_at i (omega arith))

      at₁ : (j : ℕ) → j < i → many_at W' j ≡ capped (w₁ j)
      at₁ j h = added sp.ways (sp.ways i) t (sp.ways_at s (let z = r.sound in omega (arith, z))) here j (sp.ways_at j (omega arith))

      product : p ≡ capped (sp.ways i * count_missing K (den T f))
      product = pf ∙ ap₂ (λ a b. capped (a * b)) here (cap_read (count_missing K (den T f)) cf (counts.at f r.failed)) ∙ cap_mul (sp.ways i) (count_missing K (den T f))

      one : (e : ℕ) → count_holding K e (den T root) ≡ bump sp.met x (sp.ways i * count_missing K (den T f)) e + weigh (bump w₁ f (sp.ways i)) (λ j. count_holding K e (den T j)) i
      one e = go (ℕ_discrete e x)
        where
          h : ℕ → ℕ
          h j = count_holding K e (den T j)

          both_ways : weigh (bump w₁ f (sp.ways i)) h i ≡ weigh sp.ways h i + sp.ways i * h s + sp.ways i * h f
          both_ways = weigh_bump w₁ h i f (sp.ways i) r.failed ∙ ap (λ a. a + sp.ways i * h f) (weigh_bump sp.ways h i s (sp.ways i) r.sound)

          split : (a b c : ℕ) → a * (b + c) ≡ a * b + a * c
          split a b c = omega arith

          go : Dec (e ≡ x) → count_holding K e (den T root) ≡ bump sp.met x (sp.ways i * count_missing K (den T f)) e + weigh (bump w₁ f (sp.ways i)) h i
          go (yes q) =
              let a = all_of e in
              let t1 : eqb x e ≡ true = eq-eqb x e (sym q) in
              let b : h i ≡ count_missing K (den T f) + h s =
              holding_node K e r ∙ ap₂ (λ b d. cond b 0 (cond d (count_missing K (den T f)) (h f)) + h s) k t1 in
              let c = ap (λ y. sp.ways i * y) b ∙ split (sp.ways i) (count_missing K (den T f)) (h s) in
              let z : h f ≡ 0 = holding_above K e (suc x) n (den T f) (omega (arith, q)) r.above in
              let y : sp.ways i * h f ≡ 0 = ap (λ a. sp.ways i * a) z ∙ omega arith in
              let m : bump sp.met x (sp.ways i * count_missing K (den T f)) e ≡ sp.met e + sp.ways i * count_missing K (den T f) =
              ap (λ b. sp.met e + cond b (sp.ways i * count_missing K (den T f)) 0) (eq-eqb e x q) in
              let bw = both_ways in
              omega (arith, a, c, y, m, bw)
          go (no d) =
              let a = all_of e in
              let t1 : eqb x e ≡ false = ne_eqb x e (λ q. d (sym q)) in
              let b : h i ≡ h f + h s =
              holding_node K e r ∙ ap₂ (λ b d. cond b 0 (cond d (count_missing K (den T f)) (h f)) + h s) k t1 in
              let c = ap (λ y. sp.ways i * y) b ∙ split (sp.ways i) (h f) (h s) in
              let m = bump_other sp.met x (sp.ways i * count_missing K (den T f)) e d in
              let bw = both_ways in
              omega (arith, a, c, m, bw)

-- ---- from the root to the leaves

zeros_at : (m j : ℕ) → many_at (replicate m 0) j ≡ 0
zeros_at m j = let x : get_or {A = ℕ} (replicate m 0) (2 * j) 0 ≡ 0 = zero_at m (2 * j) in let y : get_or {A = ℕ} (replicate m 0) (2 * j + 1) 0 ≡ 0 = zero_at m (2 * j + 1) in omega (arith, x, y)
  where
    zero_at : (m j : ℕ) → get_or {A = ℕ} (replicate m 0) j 0 ≡ 0
    zero_at zero j = refl
    zero_at (suc m) zero = refl
    zero_at (suc m) (suc j) = zero_at m j

pub spread_start : (T : List ℕ) (K : Set) (root m : ℕ) {W W' H : List ℕ} {v : ℕ} → W ≡ replicate m 0 → Stored W root v W' → v ≡ 1 → H ≡ replicate (2 * limits.events) 0 → Spreading T K root W' H (root + 1)
spread_start T K root m {W} {W'} {H} z t o y = record {
  ways = bump (λ j. 0) root 1;
  met = λ e. 0;
  long = ap length y ∙ length-replicate {A = ℕ} (2 * limits.events) 0;
  ways_at = λ j h. go j (ℕ_discrete j root);
  met_at = λ e. ap (λ A. many_at A e) y ∙ zeros_at (2 * limits.events) e ∙ sym cap_0;
  all = λ e.
      let h : ℕ → ℕ = λ j. count_holding K e (den T j) in
      let a = weigh_bump (λ j. 0) h (root + 1) root 1 (omega arith) in
      let b = weigh_zero h (root + 1) in
      omega (arith, a, b);
}
  where
    go : (j : ℕ) → Dec (j ≡ root) → many_at W' j ≡ capped (bump (λ j. 0) root 1 j)
    go j (yes e) = ap (many_at W') e ∙ t.here ∙ o ∙ sym (ap capped (ap (bump (λ j. 0) root 1) e ∙ bump_same (λ j. 0) root 1) ∙ cap_1)
    go j (no d) = t.there j d ∙ ap (λ A. many_at A j) z ∙ zeros_at m j ∙ sym (ap capped (bump_other (λ j. 0) root 1 j d) ∙ cap_0)

pub spread_down : {T : List ℕ} {K : Set} {root : ℕ} {W H : List ℕ} {i : ℕ} → Spreading T K root W H i → 2 < i → Spreading T K root W H (i - 1 + 1)
spread_down {T} {K} {root} {W} {H} {i} sp h = let q : i ≡ i - 1 + 1 = omega arith in subst (Spreading T K root W H) q sp

pub spread_end : {T : List ℕ} {K : Set} {root : ℕ} {W H : List ℕ} (i : ℕ) → Spreading T K root W H i → i ≤ 2 → Held T K root H
spread_end {T} {K} {root} {W} {H} i sp h = record { long = sp.long; at = λ e. sp.met_at e ∙ ap capped (sym (done e)) }
  where
    leaves : (e j : ℕ) → j < 2 → count_holding K e (den T j) ≡ 0
    leaves e zero l = holding_0 T K e
    leaves e (suc zero) l = holding_1 T K e
    leaves e (suc (suc j)) l = absurd (omega arith)

    done : (e : ℕ) → count_holding K e (den T root) ≡ sp.met e
    done e =
        let a = sp.all e in
        let b = weigh_none sp.ways (λ j. count_holding K e (den T j)) i (λ j l. leaves e j (omega arith)) in
        omega (arith, a, b)

-- ---- what is told in the end

pub over_more : (H : List ℕ) {e : ℕ} → ((j : ℕ) → j < e → get_or H (2 * j + 1) 0 ≡ 0) → get_or H (2 * e + 1) 0 ≡ 0 → (j : ℕ) → j < e + 1 → get_or H (2 * j + 1) 0 ≡ 0
over_more H {e} h q j l = go (ℕ_discrete j e)
  where
    go : Dec (j ≡ e) → get_or H (2 * j + 1) 0 ≡ 0
    go (yes z) = ap (λ x. get_or H (2 * x + 1) 0) z ∙ q
    go (no d) = h j (omega (arith, l, d))

pub written_none : (C H : List ℕ) → Written 0 C H C
written_none C H = record { at = λ j h. absurd (omega arith); small = λ j h. absurd (omega arith); behind = λ j h. refl; long = refl }

pub written_more : {m v : ℕ} {C H C' : List ℕ} → Written m C H C' → m < length C → v ≡ get_or H (2 * m) 0 → v ≤ largest → Written (m + 1) C H (set C' m v)
written_more {m} {v} {C} {H} {C'} w l q s = record {
  at = λ j h. one j h (ℕ_discrete j m);
  small = λ j h. low j h (ℕ_discrete j m);
  behind = λ j h. get_or-set_other C' m j v 0 (λ z. omega (arith, z, h)) ∙ w.behind j (omega arith);
  long = length-set C' m v ∙ w.long;
}
  where
    one : (j : ℕ) → j < m + 1 → Dec (j ≡ m) → get_or (set C' m v) j 0 ≡ get_or H (2 * j) 0
    one j h (yes e) = let g = w.long in ap (λ x. get_or (set C' m v) x 0) e ∙ get_or-set_same C' m v 0 (omega (arith, g, l)) ∙ q ∙ ap (λ x. get_or H (2 * x) 0) (sym e)
    one j h (no d) = get_or-set_other C' m j v 0 d ∙ w.at j (omega (arith, h, d))

    low : (j : ℕ) → j < m + 1 → Dec (j ≡ m) → get_or H (2 * j) 0 ≤ largest
    low j h (yes e) = subst (λ x. get_or H (2 * x) 0 ≤ largest) (sym e) (omega (arith, q, s))
    low j h (no d) = w.small j (omega (arith, h, d))

pub written_all : {m k : ℕ} {C H C' : List ℕ} → Written m C H C' → k ≤ m → m ≤ k → Written k C H C'
written_all {m} {k} {C} {H} {C'} w a b = let q : m ≡ k = omega arith in subst (λ x. Written x C H C') q w
