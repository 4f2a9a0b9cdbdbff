-- The sets of a diagram that miss others, by recursion over its nodes: whether there are any, the first, how many, and how many hold an event.
-- Assumes nothing.
use mathlib.Core.Path.{◌≡◌, refl, sym, ap, ap₂, ◌∙◌}
use mathlib.Core.Logic.{◌≢◌, ◌⊎◌, inl, inr}
use mathlib.Core.Bool.{Bool, true, false, cond, not, ◌&&◌, ◌||◌, true≢false, false≢true}
use mathlib.Core.List.{List, [], ◌∷◌, ◌++◌, map}
use Prim.Native.Nat.{ℕ, zero, suc, ◌+◌, ◌≤◌, ◌<◌}
use native.Mathlib.Omega.{arith}
use lib.Dec.{eqb}
use lib.ListN.{length, length-append, length-map}
use borrow.Author.Tests.{eqb-false, not-true as not-is-true}
use Rattle.paper.specs.Lists.{keep}
use Rattle.paper.specs.Sets.{Set, none, put, Within, some_event}
use Rattle.paper.specs.Diagrams.{Diagram, leaf, node, Ordered}
use Rattle.paper.specs.Cuts.{sets_of}
use Rattle.paper.specs.Planner.{Apart, misses, remaining, FirstMissing, holding}
use Rattle.algebra.proofs.Base.{eqb_or, eqb_same, put_same, put_other, three, Three, below, beyond, equal}
use Rattle.algebra.proofs.Lists.{bool_iff, keep_append, keep_map, keep_same, keep_all, keep_none, map_in}
use Rattle.algebra.proofs.Sets.{not_true}
use Rattle.remaining.specs.Recursion.{some_missing, first_in, count_missing, count_holding}

-- ---- the test

pub both_true : (a b : Bool) → (a && b) ≡ true → (a ≡ true) × (b ≡ true)
both_true true b h = (refl, h)
both_true false b h = absurd (false≢true h)

event_some : (k m : ℕ) (S : Set) (i : ℕ) → m ≤ i → i < m + k → S i ≡ true → some_event k m S ≡ true
event_some zero m S i l h t = absurd (omega arith)
event_some (suc k) m S i l h t = go (S m) refl (event_some k (suc m) S i)
  where
    go : (b : Bool) → S m ≡ b → (suc m ≤ i → i < suc m + k → S i ≡ true → some_event k (suc m) S ≡ true) → (b || some_event k (suc m) S) ≡ true
    go true q r = refl
    go false q r = pick (eqb_or i m)
      where
        pick : (i ≡ m) ⊎ (eqb i m ≡ false) → some_event k (suc m) S ≡ true
        pick (inl e) = absurd (true≢false (sym t ∙ ap S e ∙ q))
        pick (inr e) = r (omega (arith, eqb-false i m e)) (omega arith) t

some_event_lem : (k m : ℕ) (S : Set) → some_event k m S ≡ true → (i : ℕ) × (m ≤ i) × (i < m + k) × (S i ≡ true)
some_event_lem zero m S h = absurd (false≢true h)
some_event_lem (suc k) m S h = go (S m) refl h (some_event_lem k (suc m) S)
  where
    Found : Type 0
    Found = (i : ℕ) × (m ≤ i) × (i < m + suc k) × (S i ≡ true)

    go : (b : Bool) → S m ≡ b → (b || some_event k (suc m) S) ≡ true → (some_event k (suc m) S ≡ true → (i : ℕ) × (suc m ≤ i) × (i < suc m + k) × (S i ≡ true)) → Found
    go true q t r = (m, omega arith, omega arith, q)
    go false q t r = let (i, x, y, z) = r t in (i, omega arith, omega arith, z)

module _ (n : ℕ) (K : Set) where
  -- a set that misses K has no event of K
  pub misses_at : (T : Set) → misses n K T ≡ true → (i : ℕ) → i < n → K i ≡ true → T i ≡ false
  misses_at T h i l k = not_true (T i) (λ t. true≢false (sym (event_some n 0 (λ j. K j && T j) i (omega arith) (omega arith) (rw (k, t)))
      ∙ not-is-true (some_event n 0 (λ j. K j && T j)) h))

  pub at_misses : (T : Set) → ((i : ℕ) → i < n → K i ≡ true → T i ≡ false) → misses n K T ≡ true
  at_misses T h = ap not (not_true (some_event n 0 (λ j. K j && T j)) (λ t.
      let (i, x, y, z) = some_event_lem n 0 (λ j. K j && T j) t in
      let (p, q) = both_true (K i) (T i) z in
      true≢false (sym q ∙ h i (omega arith) p)))

  -- and where it does not, they meet
  pub meets_at : (T : Set) → misses n K T ≡ false → (i : ℕ) × (i < n) × (K i ≡ true) × (T i ≡ true)
  meets_at T h = go (some_event n 0 (λ j. K j && T j)) refl
    where
      go : (b : Bool) → some_event n 0 (λ j. K j && T j) ≡ b → (i : ℕ) × (i < n) × (K i ≡ true) × (T i ≡ true)
      go true q =
          let (i, x, y, z) = some_event_lem n 0 (λ j. K j && T j) q in
          let (u, v) = both_true (K i) (T i) z in
          (i, omega arith, u, v)
      go false q = absurd (true≢false (sym (ap not q) ∙ h))

  -- for sets of n events the test is the statement
  pub misses_apart : (T : Set) → Within n T → misses n K T ≡ true → Apart K T
  misses_apart T w h i k = go (three i n)
    where
      go : Three i n → T i ≡ false
      go (below l t) = misses_at T h i l k
      go (beyond l t u) = w i (omega arith)
      go (equal l t u) = w i (omega arith)

  pub apart_misses : (T : Set) → Apart K T → misses n K T ≡ true
  apart_misses T h = at_misses T (λ i l k. h i k)

  -- ---- a set with one event more

  miss_in : (x : ℕ) (T : Set) → x < n → K x ≡ true → misses n K (put x true T) ≡ false
  miss_in x T l k = not_true (misses n K (put x true T)) (λ h. true≢false (sym (put_same x true T) ∙ misses_at (put x true T) h x l k))

  miss_out : (x : ℕ) (T : Set) → K x ≡ false → misses n K (put x true T) ≡ misses n K T
  miss_out x T k = bool_iff (misses n K (put x true T)) (misses n K T)
      (λ h. at_misses T (λ i l j. sym (put_other x true T i (away i j)) ∙ misses_at (put x true T) h i l j))
      (λ h. at_misses (put x true T) (λ i l j. put_other x true T i (away i j) ∙ misses_at T h i l j))
    where
      away : (i : ℕ) → K i ≡ true → i ≢ x
      away i j e = true≢false (sym j ∙ ap K e ∙ k)

  -- ---- the sets of a node that miss K

  remain_in : (x : ℕ) (f s : Diagram) → x < n → K x ≡ true → remaining n K (sets_of (node x f s)) ≡ remaining n K (sets_of s)
  remain_in x f s l k = keep_append (misses n K) (map (put x true) (sets_of f)) (sets_of s) ∙ ap (λ a. a ++ remaining n K (sets_of s))
      (keep_none (misses n K) (map (put x true) (sets_of f)) (λ S h. let (T, i, e) = map_in (put x true) S (sets_of f) h in ap (misses n K) e ∙ miss_in x T l k))

  remain_out : (x : ℕ) (f s : Diagram) → K x ≡ false → remaining n K (sets_of (node x f s)) ≡ map (put x true) (remaining n K (sets_of f)) ++ remaining n K (sets_of s)
  remain_out x f s k = keep_append (misses n K) (map (put x true) (sets_of f)) (sets_of s) ∙ ap (λ a. a ++ remaining n K (sets_of s))
      (keep_map (put x true) (misses n K) (sets_of f) ∙ ap (map (put x true)) (keep_same (λ T. misses n K (put x true T)) (misses n K) (sets_of f) (λ T h. miss_out x T k)))

  pub none_misses : misses n K none ≡ true
  none_misses = at_misses none (λ i l k. refl)

  none_remains : remaining n K (none ∷ []) ≡ none ∷ []
  none_remains = rw none_misses

  -- ---- the recursions

  -- WHETHER ONE DOES, AND THE FIRST, in the order of the listing
  abbrev pub Tells : Bool → Diagram → Type 0
  Tells true z = FirstMissing n K (sets_of z) (first_in K z)
  Tells false z = remaining n K (sets_of z) ≡ []

  pub first_law : (m : ℕ) (z : Diagram) → Ordered m n z → Tells (some_missing K z) z
  unfolding some_missing first_in
  first_law m (leaf true) o = record { behind = []; is = none_remains }
  first_law m (leaf false) o = refl
  first_law m (node x f s) o = go (K x) refl (some_missing K f) (some_missing K s) refl refl (first_law (suc x) f o.2) (first_law (suc x) s o.3)
    where
      sound : (b : Bool) → remaining n K (sets_of (node x f s)) ≡ remaining n K (sets_of s) → Tells b s → (first_in K (node x f s) ≡ first_in K s) → Tells b (node x f s)
      sound true e t q = record { behind = t.behind; is = e ∙ t.is ∙ ap (λ a. a ∷ t.behind) (sym q) }
      sound false e t q = e ∙ t

      go : (k : Bool) → K x ≡ k → (a b : Bool) → some_missing K f ≡ a → some_missing K s ≡ b → Tells a f → Tells b s → Tells ((not k && a) || b) (node x f s)
      go true k a b p q tf ts = sound b (remain_in x f s o.1 k) ts (ap (λ t. cond (not t && some_missing K f) (put x true (first_in K f)) (first_in K s)) k)
      go false k true b p q tf ts = record {
        behind = map (put x true) tf.behind ++ remaining n K (sets_of s);
        is = remain_out x f s k ∙ ap (λ a. map (put x true) a ++ remaining n K (sets_of s)) tf.is
            ∙ ap (λ a. a ∷ (map (put x true) tf.behind ++ remaining n K (sets_of s))) (sym (ap₂ (λ t u. cond (not t && u) (put x true (first_in K f)) (first_in K s)) k p));
      }
      go false k false b p q tf ts = sound b (remain_out x f s k ∙ ap (λ a. map (put x true) a ++ remaining n K (sets_of s)) tf) ts
          (ap₂ (λ t u. cond (not t && u) (put x true (first_in K f)) (first_in K s)) k p)

  -- HOW MANY DO
  pub count_law : (m : ℕ) (z : Diagram) → Ordered m n z → count_missing K z ≡ length (remaining n K (sets_of z))
  unfolding count_missing
  count_law m (leaf true) o = rw none_remains
  count_law m (leaf false) o = refl
  count_law m (node x f s) o = go (K x) refl (count_law (suc x) f o.2) (count_law (suc x) s o.3)
    where
      go : (b : Bool) → K x ≡ b → count_missing K f ≡ length (remaining n K (sets_of f)) → count_missing K s ≡ length (remaining n K (sets_of s))
          → cond b 0 (count_missing K f) + count_missing K s ≡ length (remaining n K (sets_of (node x f s)))
      go true k rf rs = rw (remain_in x f s o.1 k) (omega arith)
      go false k rf rs = rw (remain_out x f s k, length-append, length-map (remaining n K (sets_of f)) (put x true), rf, rs)

  -- AND HOW MANY OF THESE HOLD e
  pub holding_law : (m e : ℕ) (z : Diagram) → Ordered m n z → count_holding K e z ≡ holding n K (sets_of z) e
  unfolding count_holding holding
  holding_law m e (leaf true) o = rw none_remains
  holding_law m e (leaf false) o = refl
  holding_law m e (node x f s) o = go (K x) refl (holding_law (suc x) e f o.2) (holding_law (suc x) e s o.3)
    where
      A : List Set
      A = remaining n K (sets_of f)

      part : (count_holding K e f ≡ holding n K (sets_of f) e) → (x ≡ e) ⊎ (eqb x e ≡ false)
          → cond (eqb x e) (count_missing K f) (count_holding K e f) ≡ length (keep (λ T. T e) (map (put x true) A))
      part r (inl q) = rw (q, eqb_same e) (count_law (suc x) f o.2 ∙ sym (ap length (keep_all (λ T. T e) (map (put e true) A)
          (λ S h. let (T, i, w) = map_in (put e true) S A h in ap (λ v. v e) w ∙ put_same e true T)) ∙ length-map A (put e true)))
      part r (inr q) = rw q (r ∙ sym (ap length (keep_map (put x true) (λ T. T e) A) ∙ length-map (keep (λ T. put x true T e) A) (put x true)
          ∙ ap length (keep_same (λ T. put x true T e) (λ T. T e) A (λ T h. put_other x true T e (λ w. eqb-false x e q (sym w))))))

      go : (b : Bool) → K x ≡ b → count_holding K e f ≡ holding n K (sets_of f) e → count_holding K e s ≡ holding n K (sets_of s) e
          → cond b 0 (cond (eqb x e) (count_missing K f) (count_holding K e f)) + count_holding K e s ≡ holding n K (sets_of (node x f s)) e
      go true k rf rs = rw (remain_in x f s o.1 k) (omega arith)
      go false k rf rs = rw (remain_out x f s k, keep_append (λ (T : Set). T e), length-append, part rf (eqb_or x e), rs)
