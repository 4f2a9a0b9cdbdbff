-- A set of n events and the list of its members tell each other, and stand in the same order.
-- Assumes nothing.
use mathlib.Core.Path.{◌≡◌, refl, sym, ap, ap₂, ◌∙◌, subst, fun_ext}
use mathlib.Core.Logic.{◌⊎◌, inl, inr}
use mathlib.Core.Bool.{Bool, true, false, cond, true≢false}
use mathlib.Core.List.{List, [], ◌∷◌}
use Prim.Native.Nat.{ℕ, zero, suc, ◌+◌, ◌≤◌, ◌<◌}
use native.Mathlib.Omega.{arith}
use native.Mathlib.Decide.{ℕ_discrete}
use lib.Dec.{eqb}
use Rattle.paper.specs.Lists.{In, keep, up_to}
use Rattle.paper.specs.Sets.{Set, of_events, members, Within}
use Rattle.paper.specs.Order.{Before}
use Rattle.algebra.proofs.Base.{put_same, put_other}
use Rattle.algebra.proofs.Lists.{keep_same}
use Rattle.algebra.proofs.Order.{before_irrefl, before_trans}
use Rattle.sidebyside.specs.Members.{Rising, Lt}
use Rattle.sidebyside.proofs.Lt.{lt_total}

pub of_own : (e : ℕ) (es : List ℕ) → of_events (e ∷ es) e ≡ true
unfolding of_events
of_own e es = put_same e true (of_events es)

pub of_other : (e : ℕ) (es : List ℕ) (i : ℕ) → (i ≡ e → ⊥) → of_events (e ∷ es) i ≡ of_events es i
unfolding of_events
of_other e es i h = put_other e true (of_events es) i h

up_from : (k m j : ℕ) → In j (up_to k m) → m ≤ j
up_from zero m j h = absurd h
up_from (suc k) m j (inl e) = omega arith
up_from (suc k) m j (inr h) = let q = up_from k (suc m) j h in omega arith

module _ (n : ℕ) where
  -- below its first member a cut has none
  pub of_below : (m : ℕ) (es : List ℕ) → Rising n m es → (i : ℕ) → i < m → of_events es i ≡ false
  unfolding of_events
  of_below m [] r i h = refl
  of_below m (e ∷ es) r i h = let a = r.0 in of_other e es i (λ q. omega arith) ∙ of_below (suc e) es r.2 i (omega arith)

  pub of_within : (m : ℕ) (es : List ℕ) → Rising n m es → Within n (of_events es)
  unfolding of_events
  of_within m [] r i h = refl
  of_within m (e ∷ es) r i h = let a = r.1 in of_other e es i (λ q. omega arith) ∙ of_within (suc e) es r.2 i h

  -- the members of the set of some members are these
  keep_of : (k m : ℕ) (es : List ℕ) → m + k ≡ n → Rising n m es → keep (of_events es) (up_to k m) ≡ es
  unfolding of_events
  keep_of zero m [] q r = refl
  keep_of zero m (e ∷ es) q r = let a = r.0 in let b = r.1 in absurd (omega arith)
  keep_of (suc k) m [] q r = keep_of k (suc m) [] (omega arith) tt
  keep_of (suc k) m (e ∷ es) q r = go (ℕ_discrete m e) (λ v. keep_of k (suc m) es (omega arith) v) (λ v. keep_of k (suc m) (e ∷ es) (omega arith) v)
    where
      go : Dec (m ≡ e) → (Rising n (suc m) es → keep (of_events es) (up_to k (suc m)) ≡ es)
          → (Rising n (suc m) (e ∷ es) → keep (of_events (e ∷ es)) (up_to k (suc m)) ≡ e ∷ es) → keep (of_events (e ∷ es)) (up_to (suc k) m) ≡ e ∷ es
      go (yes p) here on =
          let t : of_events (e ∷ es) m ≡ true = ap (of_events (e ∷ es)) p ∙ of_own e es in
          let rest = keep_same (of_events (e ∷ es)) (of_events es) (up_to k (suc m)) (λ j l. let w = up_from k (suc m) j l in of_other e es j (λ z. omega arith)) in
          subst (λ (b : Bool). cond b (m ∷ keep (of_events (e ∷ es)) (up_to k (suc m))) (keep (of_events (e ∷ es)) (up_to k (suc m))) ≡ e ∷ es) (sym t)
          (ap₂ (λ (x : ℕ) (l : List ℕ). x ∷ l) p (rest ∙ here (subst (λ (x : ℕ). Rising n (suc x) es) (sym p) r.2)))
      go (no p) here on =
          let a = r.0 in
          let up : Rising n (suc m) (e ∷ es) = (omega arith, r.1, r.2) in
          let t : of_events (e ∷ es) m ≡ false = of_below (suc m) (e ∷ es) up m (omega arith) in
          subst (λ (b : Bool). cond b (m ∷ keep (of_events (e ∷ es)) (up_to k (suc m))) (keep (of_events (e ∷ es)) (up_to k (suc m))) ≡ e ∷ es) (sym t) (on up)

  pub members_of : (es : List ℕ) → Rising n 0 es → members n (of_events es) ≡ es
  members_of es r = keep_of n 0 es (omega arith) r

  -- the members of a set rise
  keep_rising : (S : Set) (k m : ℕ) → m + k ≤ n → Rising n m (keep S (up_to k m))
  keep_rising S zero m q = tt
  keep_rising S (suc k) m q = go (S m) refl (keep_rising S k (suc m) (omega arith))
    where
      lower : (l : List ℕ) → Rising n (suc m) l → Rising n m l
      lower [] r = tt
      lower (x ∷ l) r = let a = r.0 in (omega arith, r.1, r.2)

      go : (b : Bool) → S m ≡ b → Rising n (suc m) (keep S (up_to k (suc m))) → Rising n m (cond b (m ∷ keep S (up_to k (suc m))) (keep S (up_to k (suc m))))
      go true e r = (omega arith, omega arith, r)
      go false e r = lower (keep S (up_to k (suc m))) r

  pub members_rising : (S : Set) (k : ℕ) → k ≤ n → Rising n 0 (members k S)
  members_rising S k h = keep_rising S k 0 (omega arith)

-- the set of the members of a set is this set
of_keep : (S : Set) (n k m : ℕ) → m + k ≡ n → (i : ℕ) → m ≤ i → (n ≤ i → S i ≡ false) → of_events (keep S (up_to k m)) i ≡ S i
unfolding of_events
of_keep S n zero m q i h w = sym (w (omega arith))
of_keep S n (suc k) m q i h w = go (S m) refl (ℕ_discrete i m) (λ l. of_keep S n k (suc m) (omega arith) i l w)
  where
    go : (b : Bool) → S m ≡ b → Dec (i ≡ m) → (suc m ≤ i → of_events (keep S (up_to k (suc m))) i ≡ S i)
        → of_events (cond b (m ∷ keep S (up_to k (suc m))) (keep S (up_to k (suc m)))) i ≡ S i
    go true e (yes p) on = ap (of_events (m ∷ keep S (up_to k (suc m)))) p ∙ of_own m (keep S (up_to k (suc m))) ∙ sym e ∙ ap S (sym p)
    go true e (no p) on = of_other m (keep S (up_to k (suc m))) i p ∙ on (omega arith)
    go false e (yes p) on = of_below n (suc m) (keep S (up_to k (suc m))) (keep_rising n S k (suc m) (omega arith)) i (omega arith) ∙ sym e ∙ ap S (sym p)
    go false e (no p) on = on (omega arith)

pub of_members : (n : ℕ) (S : Set) → Within n S → of_events (members n S) ≡ S
of_members n S w = fun_ext (λ i. of_keep S n n 0 (omega arith) i (omega arith) (w i))

-- a set of fewer events has the same members among them
pub members_fewer : (n k : ℕ) (S : Set) → k ≤ n → Within k S → members k S ≡ members n S
members_fewer n k S b w = sym (ap (members n) (sym (of_members k S w)) ∙ members_of n (members k S) (members_rising n S k b))

-- ---- the order

module _ (n : ℕ) where
  pub lt_before : (m : ℕ) (es fs : List ℕ) → Rising n m es → Rising n m fs → Lt es fs → Before (of_events es) (of_events fs)
  unfolding of_events
  lt_before m [] fs r q h = absurd h
  lt_before m (e ∷ es) [] r q h = record {
    at = e;
    holds = of_own e es;
    lacks = refl;
    below = λ i l. of_other e es i (λ z. omega arith) ∙ of_below n (suc e) es r.2 i (omega arith);
  }
  lt_before m (e ∷ es) (f ∷ fs) r q (inl h) = record {
    at = e;
    holds = of_own e es;
    lacks = of_below n f (f ∷ fs) (omega arith, q.1, q.2) e h;
    below = λ i l. of_below n e (e ∷ es) (omega arith, r.1, r.2) i l ∙ sym (of_below n f (f ∷ fs) (omega arith, q.1, q.2) i (omega arith));
  }
  lt_before m (e ∷ es) (f ∷ fs) r q (inr (p, h)) =
      let b = lt_before (suc e) es fs r.2 (subst (λ (x : ℕ). Rising n (suc x) fs) (sym p) q.2) h in
      let apart : b.at ≡ e → ⊥ = λ z. true≢false (sym b.holds ∙ of_below n (suc e) es r.2 b.at (omega arith)) in
      record {
        at = b.at;
        holds = of_other e es b.at apart ∙ b.holds;
        lacks = of_other f fs b.at (λ z. apart (z ∙ sym p)) ∙ b.lacks;
        below = λ i l. ap₂ (λ (x : ℕ) (y : Bool). cond (eqb i x) true y) p (b.below i l);
      }

  before_lt : (es fs : List ℕ) → Rising n 0 es → Rising n 0 fs → Before (of_events es) (of_events fs) → Lt es fs
  before_lt es fs r q b = go (lt_total es fs)
    where
      go : Lt es fs ⊎ ((es ≡ fs) ⊎ Lt fs es) → Lt es fs
      go (inl h) = h
      go (inr (inl h)) = absurd (before_irrefl (of_events fs) (subst (λ (x : List ℕ). Before (of_events x) (of_events fs)) h b))
      go (inr (inr h)) = absurd (before_irrefl (of_events es) (before_trans (of_events es) (of_events fs) (of_events es) b (lt_before 0 fs es q r h)))

  pub before_members : (S T : Set) → Within n S → Within n T → Before S T → Lt (members n S) (members n T)
  before_members S T v w b = before_lt (members n S) (members n T) (members_rising n S n (omega arith)) (members_rising n T n (omega arith))
      (subst (λ (x : Set). Before x (of_events (members n T))) (sym (of_members n S v)) (subst (λ (x : Set). Before S x) (sym (of_members n T w)) b))
