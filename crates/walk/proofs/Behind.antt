-- What comes behind a set, one event at a time.
-- Assumes nothing.
use mathlib.Core.Path.{◌≡◌, refl, sym, ap, ◌∙◌}
use mathlib.Core.Bool.{Bool, true, false, cond}
use Prim.Native.Nat.{ℕ, zero, suc, ◌+◌, ◌-◌, ◌≤◌, ◌<◌}
use native.Mathlib.Nat.{zero-add, add-zero, suc-add}
use native.Mathlib.Omega.{arith}
use Rattle.paper.specs.Sets.{Set}
use Rattle.paper.specs.Order.{behind}

-- events in which two sets agree do not decide
skip : (S T : Set) (j k m : ℕ) → ((i : ℕ) → m ≤ i → i < m + j → S i ≡ T i) → behind (j + k) m S T ≡ behind k (m + j) S T
skip S T zero k m h = ap (λ (a : ℕ). behind a m S T) (zero-add k) ∙ ap (λ (b : ℕ). behind k b S T) (sym (add-zero m))
skip S T (suc j) k m h =
    let at : suc m + j ≡ m + suc j = omega arith in
    ap (λ (a : ℕ). behind a m S T) (suc-add j k) ∙ agree (S m) (T m) (h m (omega arith) (omega arith))
    ∙ skip S T j k (suc m) (λ i a b. h i (omega arith) (omega arith)) ∙ ap (λ (b : ℕ). behind k b S T) at
  where
    agree : (a b : Bool) → a ≡ b → cond a (cond b (behind (j + k) (suc m) S T) true) (cond b false (behind (j + k) (suc m) S T)) ≡ behind (j + k) (suc m) S T
    agree a true e = rw e
    agree a false e = rw e

-- the first event e from i on in which they may differ
module _ (n i e : ℕ) (S T : Set) (le : i ≤ e) (lt : e < n) (same : (j : ℕ) → i ≤ j → j < e → S j ≡ T j) where
  at_event : behind (n - i) i S T ≡ cond (S e) (cond (T e) (behind (n - (e + 1)) (e + 1) S T) true) (cond (T e) false (behind (n - (e + 1)) (e + 1) S T))
  at_event =
      let q : n - i ≡ (e - i) + (n - e) = omega arith in
      let p : i + (e - i) ≡ e = omega arith in
      let r : n - e ≡ suc (n - (e + 1)) = omega arith in
      let s : suc e ≡ e + 1 = omega arith in
      ap (λ (a : ℕ). behind a i S T) q ∙ skip S T (e - i) (n - e) i (λ j a b. same j a (omega arith))
      ∙ ap (λ (b : ℕ). behind (n - e) b S T) p ∙ ap (λ (a : ℕ). behind a e S T) r
      ∙ ap (λ (b : ℕ). cond (S e) (cond (T e) (behind (n - (e + 1)) b S T) true) (cond (T e) false (behind (n - (e + 1)) b S T))) s

  pub both_hold : S e ≡ true → T e ≡ true → behind (n - i) i S T ≡ behind (n - (e + 1)) (e + 1) S T
  both_hold a b = at_event ∙ rw (a, b)

  pub both_lack : S e ≡ false → T e ≡ false → behind (n - i) i S T ≡ behind (n - (e + 1)) (e + 1) S T
  both_lack a b = at_event ∙ rw (a, b)

  pub first_holds : S e ≡ true → T e ≡ false → behind (n - i) i S T ≡ true
  first_holds a b = at_event ∙ rw (a, b)

  pub second_holds : S e ≡ false → T e ≡ true → behind (n - i) i S T ≡ false
  second_holds a b = at_event ∙ rw (a, b)

-- it depends on the events from m on alone
pub behind_same : (k m : ℕ) (S T U : Set) → ((i : ℕ) → m ≤ i → T i ≡ U i) → behind k m S T ≡ behind k m S U
behind_same zero m S T U h = refl
behind_same (suc k) m S T U h =
    rw (h m (omega arith), behind_same k (suc m) S T U (λ i a. h i (omega arith)))

-- nothing comes behind a set with no event from m on
pub behind_none : (k m : ℕ) (S T : Set) → ((i : ℕ) → m ≤ i → i < m + k → S i ≡ false) → behind k m S T ≡ false
behind_none zero m S T h = refl
behind_none (suc k) m S T h = rw (h m (omega arith) (omega arith)) (go (T m) (behind_none k (suc m) S T (λ i a b. h i (omega arith) (omega arith))))
  where
    go : (t : Bool) → behind k (suc m) S T ≡ false → cond t false (behind k (suc m) S T) ≡ false
    go true e = refl
    go false e = e
