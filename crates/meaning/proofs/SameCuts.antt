-- Two functions of events that are one under a renumbering have the same minimal cuts under it.
-- Assumes nothing.
use mathlib.Core.Path.{◌≡◌, refl, sym, ap, ◌∙◌, subst}
use mathlib.Core.Bool.{Bool, true, false, cond, true≢false, false≢true}
use Prim.Native.Nat.{ℕ, ◌<◌, ◌≤◌}
use native.Mathlib.Decide.{dec_lt, ℕ_discrete}
use native.Mathlib.Omega.{arith}
use borrow.Author.Tests.{lt-ltb, le-ltb}
use lib.Dec.{ltb}
use Rattle.paper.specs.Sets.{Set, put, Part}
use Rattle.paper.specs.Functions.{Fun}
use Rattle.paper.specs.Cuts.{MinimalCut}
use Rattle.algebra.proofs.Base.{put_same, put_other}
use Rattle.algebra.proofs.Sets.{not_true}
use Rattle.meaning.proofs.Blind.{Blind}

module _ (F G : Fun) (m n : ℕ) (to : ℕ → ℕ) (low : (e : ℕ) → e < m → to e < n) (apart : (e f : ℕ) → e < m → f < m → to e ≡ to f → e ≡ f)
    (onto : (i : ℕ) → i < n → (e : ℕ) × (e < m) × (to e ≡ i)) (blind : Blind m F) (same : (v : Set) → G v ≡ F (λ e. v (to e))) where
  -- a set of G's events as one of F's, and back
  abbrev down : Set → Set
  down S e = cond (ltb e m) (S (to e)) false

  at : Set → (i : ℕ) → Dec (i < n) → Bool
  at S i (yes h) = S (onto i h).0
  at S i (no h) = false

  up : Set → Set
  up S i = at S i (dec_lt i n)

  down_low : (S : Set) (e : ℕ) → e < m → down S e ≡ S (to e)
  down_low S e h = rw (lt-ltb e m h) refl

  down_high : (S : Set) (e : ℕ) → m ≤ e → down S e ≡ false
  down_high S e h = rw (le-ltb e m h) refl

  up_of : (S : Set) (e : ℕ) → e < m → up S (to e) ≡ S e
  unfolding up at
  up_of S e h = go (dec_lt (to e) n)
    where
      go : (d : Dec (to e < n)) → at S (to e) d ≡ S e
      go (yes k) = let (f, l, q) = onto (to e) k in ap S (apart f e l h q)
      go (no k) = absurd (k (low e h))

  up_high : (S : Set) (i : ℕ) → n ≤ i → up S i ≡ false
  unfolding up at
  up_high S i h = go (dec_lt i n)
    where
      go : (d : Dec (i < n)) → at S i d ≡ false
      go (yes k) = let z : ⊥ = omega arith in absurd z
      go (no k) = refl

  -- G of a set is F of it
  down_fails : (S : Set) → G S ≡ F (down S)
  down_fails S = same S ∙ blind (λ e. S (to e)) (down S) (λ e h. sym (down_low S e h))

  up_fails : (S : Set) → G (up S) ≡ F S
  up_fails S = same (up S) ∙ blind (λ e. up S (to e)) S (λ e h. up_of S e h)

  -- ---- below a part is a part

  up_part : (T S : Set) → Part T (down S) → Part (up T) S
  up_part T S p i h = go (dec_lt i n)
    where
      go : Dec (i < n) → S i ≡ true
      go (yes k) =
          let (e, l, q) = onto i k in
          let t : T e ≡ true = sym (up_of T e l) ∙ ap (up T) q ∙ h in
          subst (λ j. S j ≡ true) q (sym (down_low S e l) ∙ p e t)
      go (no k) = absurd (true≢false (sym h ∙ up_high T i (omega arith)))

  up_is : (T S : Set) → Part T (down S) → up T ≡ S → T ≡ down S
  up_is T S p q = λ j e. each e j
    where
      each : (e : ℕ) → T e ≡ down S e
      each e = go (dec_lt e m)
        where
          go : Dec (e < m) → T e ≡ down S e
          go (yes l) = sym (up_of T e l) ∙ ap (λ z. z (to e)) q ∙ sym (down_low S e l)
          go (no l) = not_true (T e) (λ t. true≢false (sym (p e t) ∙ down_high S e (omega arith))) ∙ sym (down_high S e (omega arith))

  down_part : (T S : Set) → Part T (up S) → Part (down T) S
  down_part T S p e h = go (dec_lt e m)
    where
      go : Dec (e < m) → S e ≡ true
      go (yes l) = sym (up_of S e l) ∙ p (to e) (sym (down_low T e l) ∙ h)
      go (no l) = absurd (true≢false (sym h ∙ down_high T e (omega arith)))

  down_is : (T S : Set) → Part T (up S) → down T ≡ S → T ≡ up S
  down_is T S p q = λ j i. each i j
    where
      each : (i : ℕ) → T i ≡ up S i
      each i = go (dec_lt i n)
        where
          go : Dec (i < n) → T i ≡ up S i
          go (yes k) =
              let (e, l, r) = onto i k in
              subst (λ z. T z ≡ up S z) r (sym (down_low T e l) ∙ ap (λ z. z e) q ∙ sym (up_of S e l))
          go (no k) = not_true (T i) (λ t. true≢false (sym (p i t) ∙ up_high S i (omega arith))) ∙ sym (up_high S i (omega arith))

  -- a minimal cut has no event beyond the tree's
  cut_low : (S : Set) → MinimalCut F S → (e : ℕ) → m ≤ e → S e ≡ false
  cut_low S c e h = not_true (S e) smaller
    where
      fewer : Part (put e false S) S
      fewer i k = go (ℕ_discrete i e)
        where
          go : Dec (i ≡ e) → S i ≡ true
          go (yes q) = absurd (false≢true (sym (ap (put e false S) q ∙ put_same e false S) ∙ k))
          go (no q) = sym (put_other e false S i q) ∙ k

      still : F (put e false S) ≡ F S
      still = blind (put e false S) S (λ i l. put_other e false S i (λ q. omega arith))

      smaller : S e ≡ true → ⊥
      smaller t = true≢false (sym (still ∙ c.fails) ∙ c.minimal (put e false S) fewer (λ q. true≢false (sym t ∙ sym (ap (λ z. z e) q) ∙ put_same e false S)))

  -- EVERY CUT of G is one of F by F's numbers, and every cut of F comes from one of G
  pub cut_down : (S : Set) → MinimalCut G S → MinimalCut F (down S)
  cut_down S c = record {
    fails = sym (down_fails S) ∙ c.fails;
    minimal = λ T p d. sym (up_fails T) ∙ c.minimal (up T) (up_part T S p) (λ q. d (up_is T S p q));
  }

  pub cut_up : (S : Set) → MinimalCut F S → (T : Set) × MinimalCut G T × (down T ≡ S)
  cut_up S c = (up S, cut, λ j e. each e j)
    where
      cut : MinimalCut G (up S)
      cut = record {
        fails = up_fails S ∙ c.fails;
        minimal = λ T p d. down_fails T ∙ c.minimal (down T) (down_part T S p) (λ q. d (down_is T S p q));
      }

      each : (e : ℕ) → down (up S) e ≡ S e
      each e = go (dec_lt e m)
        where
          go : Dec (e < m) → down (up S) e ≡ S e
          go (yes l) = down_low (up S) e l ∙ up_of S e l
          go (no l) = down_high (up S) e (omega arith) ∙ sym (cut_low S c e (omega arith))
