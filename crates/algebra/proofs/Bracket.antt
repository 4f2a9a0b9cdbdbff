-- The bracket encloses the exact sum and lies close to it.
-- Assumes nothing.
use mathlib.Core.Path.{◌≡◌, refl, sym, ap, ap₂, ◌∙◌, fun_ext}
use mathlib.Core.Bool.{Bool, true, false, cond, false≢true, ◌||◌}
use mathlib.Core.List.{List, [], ◌∷◌, ◌++◌, map}
use Prim.Native.Nat.{ℕ, zero, suc, ◌+◌, ◌*◌, ◌-◌, ◌/◌, ◌^◌, ◌≤◌, ◌<◌}
use native.Mathlib.Nat.{mul-le-mul_left, mul-le-mul_right, mul-lt-mul_of_pos_right, le_of_mul-le-mul_right, lt_of_mul-lt-mul_right, div-mul-le_self, lt-div-mul-add, pow-suc, pow-zero, add-sub_of_le}
use native.Mathlib.Omega.{arith}
use lib.Dec.{eqb}
use borrow.Author.Tests.{ne_eqb}
use Rattle.paper.specs.Lists.{keep, sum}
use Rattle.paper.specs.Sets.{Set, put, all_sets}
use Rattle.paper.specs.Functions.{Fun, fix_f}
use Rattle.paper.specs.Diagrams.{Diagram, leaf, node, eval, Ordered}
use Rattle.paper.specs.Chance.{weight, total, low, high, stands, standing, Brackets}
use Rattle.algebra.proofs.Base.{put_same, put_other, eqb_same, widen}
use Rattle.algebra.proofs.Lists.{map_append, keep_append, keep_map, map_map, map_same}
use Rattle.algebra.proofs.Fix.{Top, at, above, top, at_end, eval_put}
use Rattle.algebra.proofs.Sets.{failed_branch, sound_branch}

sum_append : (xs ys : List ℕ) → sum (xs ++ ys) ≡ sum xs + sum ys
sum_append [] ys = omega arith
sum_append (x ∷ xs) ys = omega (arith, sum_append xs ys)

sum_times : {A : Type 0} (c : ℕ) (w : A → ℕ) (xs : List A) → sum (map (λ x. c * w x) xs) ≡ c * sum (map w xs)
sum_times c w [] = omega arith
sum_times c w (x ∷ xs) = omega (arith, sum_times c w xs)

-- ---- one step of the recursion, on plain numbers: q is the rounded number of a node, l and h its branches', t their exact sums,
-- x and c the event's chance and what is left of D, p a power of D

module _ (x c D p q t₁ t₂ : ℕ) where
  low_step : (l₁ l₂ : ℕ) → q * D ≤ x * l₁ + c * l₂ → l₁ * p ≤ t₁ * D → l₂ * p ≤ t₂ * D → q * (p * D) ≤ (x * t₁ + c * t₂) * D
  low_step l₁ l₂ h u v = omega (arith, mul-le-mul_right p h, mul-le-mul_left x u, mul-le-mul_left c v)

  high_step : (h₁ h₂ : ℕ) → x * h₁ + c * h₂ ≤ q * D → t₁ * D ≤ h₁ * p → t₂ * D ≤ h₂ * p → (x * t₁ + c * t₂) * D ≤ q * (p * D)
  high_step h₁ h₂ h u v = omega (arith, mul-le-mul_right p h, mul-le-mul_left x u, mul-le-mul_left c v)

  low_near : (l₁ l₂ M : ℕ) → x + c ≡ D → 0 < p → x * l₁ + c * l₂ < q * D + D → t₁ * D ≤ (l₁ + M) * p → t₂ * D ≤ (l₂ + M) * p
      → (x * t₁ + c * t₂) * D < (q + (1 + M)) * (p * D)
  low_near l₁ l₂ M e p0 h u v =
      omega (arith, mul-le-mul_right p h, mul-le-mul_left x u, mul-le-mul_left c v, ap (λ n. n * (M * p)) e)

  high_near : (h₁ h₂ M : ℕ) → x + c ≡ D → 0 < p → q * D < x * h₁ + c * h₂ + D → h₁ * p ≤ t₁ * D + M * p → h₂ * p ≤ t₂ * D + M * p
      → q * (p * D) < (x * t₁ + c * t₂) * D + (1 + M) * (p * D)
  high_near h₁ h₂ M e p0 h u v =
      omega (arith, mul-le-mul_right p h, mul-le-mul_left x u, mul-le-mul_left c v, ap (λ n. n * (M * p)) e)

-- rounding up
up_above : (N D : ℕ) → 0 < D → N ≤ (N + (D - 1)) / D * D
up_above N D h = omega (arith, lt-div-mul-add {a = N + (D - 1)} h)

up_below : (N D : ℕ) → 0 < D → (N + (D - 1)) / D * D < N + D
up_below N D h = omega (arith, div-mul-le_self (N + (D - 1)) D)

-- all divided by D
divide : (D k S L lo hi : ℕ) → 0 < D → lo * D ^ suc k ≤ S * D → S * D ≤ hi * D ^ suc k → S * D ≤ (lo + L) * D ^ suc k → hi * D ^ suc k ≤ S * D + L * D ^ suc k
    → (0 < L → S * D < (lo + L) * D ^ suc k) → (0 < L → hi * D ^ suc k < S * D + L * D ^ suc k) → Brackets D k S L lo hi
divide D k S L lo hi D0 = rw (pow-suc D k) (λ a b c d e f.
    let under : lo * D ^ k ≤ S = le_of_mul-le-mul_right {k = D} (omega arith) D0 in
    let over : S ≤ hi * D ^ k = le_of_mul-le-mul_right {k = D} (omega arith) D0 in
    let near : S ≤ lo * D ^ k + L * D ^ k = le_of_mul-le-mul_right {k = D} (omega arith) D0 in
    let close : hi * D ^ k ≤ S + L * D ^ k = le_of_mul-le-mul_right {k = D} (omega arith) D0 in
    record {
      under = under;
      over = over;
      near_under = λ h. lt_of_mul-lt-mul_right D (omega (arith, e h));
      near_over = λ h. lt_of_mul-lt-mul_right D (omega (arith, f h));
      exact_under = λ h. omega (arith, ap (λ n. n * D ^ k) h);
      exact_over = λ h. omega (arith, ap (λ n. n * D ^ k) h);
    })

-- ---- the events that stand in a diagram

stands_above : (m n : ℕ) (d : Diagram) → Ordered (suc m) n d → stands m d ≡ false
stands_above m n (leaf b) o = refl
stands_above m n (node e f s) o =
    rw (
      ne_eqb m e (λ q. omega (arith, o.0)),
      stands_above m n f (widen (suc e) (suc m) n f (omega (arith, o.0)) o.2),
      stands_above m n s (widen (suc e) (suc m) n s (omega (arith, o.0)) o.3),
    )

standing_le : (k m : ℕ) (d d' : Diagram) → ((i : ℕ) → stands i d ≡ true → stands i d' ≡ true) → standing k m d ≤ standing k m d'
standing_le zero m d d' h = omega arith
standing_le (suc k) m d d' h = go (stands m d) (stands m d') (h m) (standing_le k (suc m) d d' h)
  where
    go : (s t : Bool) → (s ≡ true → t ≡ true) → standing k (suc m) d ≤ standing k (suc m) d'
        → cond s 1 0 + standing k (suc m) d ≤ cond t 1 0 + standing k (suc m) d'
    go true true q r = omega arith
    go true false q r = absurd (false≢true (q refl))
    go false t q r = omega arith

or_left : (a b c : Bool) → b ≡ true → (a || (b || c)) ≡ true
or_left true b c h = refl
or_left false b c h = rw h

or_right : (a b c : Bool) → c ≡ true → (a || (b || c)) ≡ true
or_right true b c h = refl
or_right false true c h = refl
or_right false false c h = h

-- ---- the sum by its first event

module _ (D : ℕ) (a : ℕ → ℕ) where
  -- an event below m has no weight
  weight_put : (k m e : ℕ) (b : Bool) (S : Set) → e < m → weight D a k m (put e b S) ≡ weight D a k m S
  weight_put zero m e b S h = refl
  weight_put (suc k) m e b S h = rw (put_other e b S m (λ q. omega arith), weight_put k (suc m) e b S (omega arith))

  half_total : (k m : ℕ) (b : Bool) (F : Fun)
      → sum (map (weight D a (suc k) m) (keep F (map (put m b) (all_sets k (suc m))))) ≡ cond b (a m) (D - a m) * total D a k (suc m) (fix_f m b F)
  unfolding total
  half_total k m b F =
      ap (λ l. sum (map (weight D a (suc k) m) l)) (keep_map (put m b) F (all_sets k (suc m)))
      ∙ ap sum (sym (map_map (weight D a (suc k) m) (put m b) l)
      ∙ map_same (λ S. weight D a (suc k) m (put m b S)) (λ S. cond b (a m) (D - a m) * weight D a k (suc m) S) l
      (λ S h. rw (put_same m b S, weight_put k (suc m) m b S (omega arith))))
      ∙ sum_times (cond b (a m) (D - a m)) (weight D a k (suc m)) l
    where
      l : List Set
      l = keep (fix_f m b F) (all_sets k (suc m))

  -- Shannon's decomposition (2) of document 000, 5.1
  pub total_step : (k m : ℕ) (F : Fun)
      → total D a (suc k) m F ≡ a m * total D a k (suc m) (fix_f m true F) + (D - a m) * total D a k (suc m) (fix_f m false F)
  unfolding total
  total_step k m F =
      ap (λ l. sum (map (weight D a (suc k) m) l)) (keep_append F (map (put m true) r) (map (put m false) r))
      ∙ ap sum (map_append (weight D a (suc k) m) (keep F (map (put m true) r)) (keep F (map (put m false) r)))
      ∙ sum_append (map (weight D a (suc k) m) (keep F (map (put m true) r))) (map (weight D a (suc k) m) (keep F (map (put m false) r)))
      ∙ ap₂ ◌+◌ (half_total k m true F) (half_total k m false F)
    where
      r : List Set
      r = all_sets k (suc m)

-- what holds of the two numbers of d, of k events from m on
pub record Close (D : ℕ) (a : ℕ → ℕ) (k m : ℕ) (d : Diagram) : Type 0 where
  pub above_low : low D a d * D ^ k ≤ total D a k m (eval d) * D
  pub below_high : total D a k m (eval d) * D ≤ high D a d * D ^ k
  pub near_low : total D a k m (eval d) * D ≤ (low D a d + standing k m d) * D ^ k
  pub near_high : high D a d * D ^ k ≤ total D a k m (eval d) * D + standing k m d * D ^ k
  pub nearer_low : 0 < standing k m d → total D a k m (eval d) * D < (low D a d + standing k m d) * D ^ k
  pub nearer_high : 0 < standing k m d → high D a d * D ^ k < total D a k m (eval d) * D + standing k m d * D ^ k

module _ (D : ℕ) (a : ℕ → ℕ) (D0 : 0 < D) where
  close_leaf : (m : ℕ) (c : Bool) → Close D a 0 m (leaf c)
  unfolding total
  close_leaf m true = record {
    above_low = rw (pow-zero D) (omega arith);
    below_high = rw (pow-zero D) (omega arith);
    near_low = rw (pow-zero D) (omega arith);
    near_high = rw (pow-zero D) (omega arith);
    nearer_low = λ h. omega arith;
    nearer_high = λ h. omega arith;
  }
  close_leaf m false = record {
    above_low = omega arith;
    below_high = omega arith;
    near_low = omega arith;
    near_high = omega arith;
    nearer_low = λ h. omega arith;
    nearer_high = λ h. omega arith;
  }

  pow_pos : (k : ℕ) → 0 < D ^ k
  pow_pos zero = rw (pow-zero D) (omega arith)
  pow_pos (suc k) = rw (pow-suc D k) (omega (arith, mul-le-mul_left (D ^ k) D0, pow_pos k))

  module _ (k m n : ℕ) (am : a m ≤ D) where
    -- the first event is not in the diagram
    close_above : (d : Diagram) → Ordered (suc m) n d → Close D a k (suc m) d → Close D a (suc k) m d
    close_above d o c = record {
      above_low = rw (pow-suc D k, T) (omega (arith, mul-le-mul_right D c.above_low));
      below_high = rw (pow-suc D k, T) (omega (arith, mul-le-mul_right D c.below_high));
      near_low = rw (pow-suc D k, T, L) (omega (arith, mul-le-mul_right D c.near_low));
      near_high = rw (pow-suc D k, T, L) (omega (arith, mul-le-mul_right D c.near_high));
      nearer_low = rw (pow-suc D k, T, L) (λ h. omega (arith, mul-lt-mul_of_pos_right (c.nearer_low h) D0));
      nearer_high = rw (pow-suc D k, T, L) (λ h. omega (arith, mul-lt-mul_of_pos_right (c.nearer_high h) D0));
    }
      where
        t : ℕ
        t = total D a k (suc m) (eval d)

        same : (b : Bool) → fix_f m b (eval d) ≡ eval d
        same b = fun_ext (λ v. eval_put m n d b v o)

        T : total D a (suc k) m (eval d) ≡ t * D
        T = total_step D a k m (eval d) ∙ ap₂ (λ F G. a m * total D a k (suc m) F + (D - a m) * total D a k (suc m) G) (same true) (same false)
            ∙ omega (arith, ap (λ n. n * t) (add-sub_of_le am))

        L : standing (suc k) m d ≡ standing k (suc m) d
        L = rw (stands_above m n d o) (omega arith)

    close_at : (f s : Diagram) → Ordered (suc m) n f → Ordered (suc m) n s → Close D a k (suc m) f → Close D a k (suc m) s → Close D a (suc k) m (node m f s)
    close_at f s of os cf cs = record {
      above_low = rw (pow-suc D k, T) (low_step x c D p q t₁ t₂ (low D a f) (low D a s) within cf.above_low cs.above_low);
      below_high = rw (pow-suc D k, T) (high_step x c D p r t₁ t₂ (high D a f) (high D a s) (up_above U D D0) cf.below_high cs.below_high);
      near_low = omega (arith, low_close);
      near_high = omega (arith, high_close);
      nearer_low = λ h. low_close;
      nearer_high = λ h. high_close;
    }
      where
        t₁ : ℕ
        t₁ = total D a k (suc m) (eval f)

        t₂ : ℕ
        t₂ = total D a k (suc m) (eval s)

        M : ℕ
        M = standing k (suc m) (node m f s)

        T : total D a (suc k) m (eval (node m f s)) ≡ a m * t₁ + (D - a m) * t₂
        T = total_step D a k m (eval (node m f s)) ∙ ap₂ (λ F G. a m * total D a k (suc m) F + (D - a m) * total D a k (suc m) G)
            (fun_ext (failed_branch n m f s of os)) (fun_ext (sound_branch n m f s of os))

        L : standing (suc k) m (node m f s) ≡ 1 + M
        L = rw (eqb_same m)

        Lf : standing k (suc m) f ≤ M
        Lf = standing_le k (suc m) f (node m f s) (λ i h. or_left (eqb i m) (stands i f) (stands i s) h)

        Ls : standing k (suc m) s ≤ M
        Ls = standing_le k (suc m) s (node m f s) (λ i h. or_right (eqb i m) (stands i f) (stands i s) h)

        x : ℕ
        x = a m

        c : ℕ
        c = D - a m

        p : ℕ
        p = D ^ k

        q : ℕ
        q = low D a (node m f s)

        r : ℕ
        r = high D a (node m f s)

        N : ℕ
        N = x * low D a f + c * low D a s + 0

        U : ℕ
        U = x * high D a f + c * high D a s

        within : q * D ≤ x * low D a f + c * low D a s
        within = let h : N / D * D ≤ N = div-mul-le_self N D in omega arith

        under : x * low D a f + c * low D a s < q * D + D
        under = let h : N < N / D * D + D = lt-div-mul-add D0 in omega arith

        low_close : total D a (suc k) m (eval (node m f s)) * D < (q + standing (suc k) m (node m f s)) * D ^ suc k
        low_close = rw (pow-suc D k, T, L) (low_near x c D p q t₁ t₂ (low D a f) (low D a s) M (add-sub_of_le am) (pow_pos k) under
            (omega (arith, cf.near_low, mul-le-mul_right p Lf)) (omega (arith, cs.near_low, mul-le-mul_right p Ls)))

        high_close : r * D ^ suc k < total D a (suc k) m (eval (node m f s)) * D + standing (suc k) m (node m f s) * D ^ suc k
        high_close = rw (pow-suc D k, T, L) (high_near x c D p r t₁ t₂ (high D a f) (high D a s) M (add-sub_of_le am) (pow_pos k) (up_below U D D0)
            (omega (arith, cf.near_high, mul-le-mul_right p Lf)) (omega (arith, cs.near_high, mul-le-mul_right p Ls)))

  close_from : (k m n : ℕ) → m + k ≡ n → ((i : ℕ) → i < n → a i ≤ D) → (d : Diagram) → Ordered m n d → Close D a k m d
  close_from zero m n q h d o = let (c, e) = at_end m n d (omega arith) o in rw e (close_leaf m c)
  close_from (suc k) m n q h d o = go d (top m n d o) (close_from k (suc m) n (omega arith) h)
    where
      go : (d : Diagram) → Top m n d → ((d : Diagram) → Ordered (suc m) n d → Close D a k (suc m) d) → Close D a (suc k) m d
      go d (at f s l x y) r = close_at k m n (h m l) f s x y (r f x) (r s y)
      go d (above d' x) r = close_above k m n (h m (omega arith)) d' x (r d' x)

  -- THE BRACKET: n = k + 1 events
  pub bracket : (k : ℕ) → ((i : ℕ) → i < suc k → a i ≤ D) → (d : Diagram) → Ordered 0 (suc k) d
      → Brackets D k (total D a (suc k) 0 (eval d)) (standing (suc k) 0 d) (low D a d) (high D a d)
  bracket k h d o =
      let c = close_from (suc k) 0 (suc k) (omega arith) h d o in
      divide D k (total D a (suc k) 0 (eval d)) (standing (suc k) 0 d) (low D a d) (high D a d) D0
      c.above_low c.below_high c.near_low c.near_high c.nearer_low c.nearer_high
