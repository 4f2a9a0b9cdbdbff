-- THE PLAN: its steps end, lead to one set, and leave no cut that holds an event.
-- Assumes nothing.
use mathlib.Core.Path.{◌≡◌, refl, sym, ap, ap₂, ◌∙◌, subst, fun_ext}
use mathlib.Core.Logic.{◌⊎◌, inl, inr, ◌↔◌}
use mathlib.Core.Bool.{Bool, true, false, cond, true≢false, false≢true}
use mathlib.Core.List.{List, [], ◌∷◌}
use Prim.Native.Nat.{ℕ, zero, suc, ◌+◌, ◌-◌, ◌≤◌, ◌<◌}
use native.Mathlib.Omega.{arith}
use lib.Dec.{eqb, ltb}
use lib.ListN.{length}
use borrow.Author.Tests.{eqb-true, eqb-false, ltb-true, ltb-false}
use Rattle.paper.specs.Lists.{In, keep}
use Rattle.paper.specs.Sets.{Set, none, put, Part, Within}
use Rattle.paper.specs.Functions.{Fun}
use Rattle.paper.specs.Planner.{Safe, Decides, misses, remaining, holding, Plans, ends, takes, greatest, choice, plan_from, plan_of}
use Rattle.algebra.proofs.Base.{eqb_or, put_same, put_other, three, Three, below, beyond, equal}
use Rattle.algebra.proofs.Lists.{in_keep, keep_in, keep_none}
use Rattle.algebra.proofs.Sets.{not_true}
use Rattle.remaining.proofs.Missing.{misses_at, at_misses}
use Rattle.planner.proofs.Safety.{safe_law, always_fails}

-- ---- the greatest number: b is the event of the greatest of those below m

record Greatest (w : ℕ → ℕ) (m b : ℕ) : Type 0 where
  pub inside : b ≤ m - 1
  pub most : (i : ℕ) → i < m → w i ≤ w b
  pub lowest : (i : ℕ) → i < b → w i < w b

greatest_from : (w : ℕ → ℕ) (k m b : ℕ) → Greatest w m b → Greatest w (m + k) (greatest w k m b)
greatest_from w zero m b h = let e : m + 0 ≡ m = omega arith in rw e h
greatest_from w (suc k) m b h =
    let e : m + suc k ≡ suc m + k = omega arith in
    rw e (greatest_from w k (suc m) (cond (ltb (w b) (w m)) m b) (go (ltb (w b) (w m)) refl))
  where
    go : (t : Bool) → ltb (w b) (w m) ≡ t → Greatest w (suc m) (cond t m b)
    go true q = record {
      inside = omega arith;
      most = λ i l. up i l (eqb_or i m);
      lowest = λ i l. omega (arith, h.most i l, ltb-true (w b) (w m) q);
    }
      where
        up : (i : ℕ) → i < suc m → (i ≡ m) ⊎ (eqb i m ≡ false) → w i ≤ w m
        up i l (inl e) = omega (arith, ap w e)
        up i l (inr e) = let u : i < m = omega (arith, eqb-false i m e) in omega (arith, h.most i u, ltb-true (w b) (w m) q)
    go false q = record {
      inside = omega (arith, h.inside);
      most = λ i l. up i l (eqb_or i m);
      lowest = h.lowest;
    }
      where
        up : (i : ℕ) → i < suc m → (i ≡ m) ⊎ (eqb i m ≡ false) → w i ≤ w b
        up i l (inl e) = omega (arith, ap w e, ltb-false (w b) (w m) q)
        up i l (inr e) = let u : i < m = omega (arith, eqb-false i m e) in h.most i u

greatest_law : (w : ℕ → ℕ) (n : ℕ) → Greatest w n (greatest w n 0 0)
greatest_law w n = let e : 0 + n ≡ n = omega arith in
    subst (λ j. Greatest w j (greatest w n 0 0)) e (greatest_from w n 0 0 (record { inside = omega arith; most = λ i l. absurd (omega arith); lowest = λ i l. absurd (omega arith) }))

-- ---- how many of the k events from m on are not in K

abbrev pub outside : ℕ → ℕ → Set → ℕ
outside zero m K = 0
outside (suc k) m K = cond (K m) 0 1 + outside k (suc m) K

outside_le : (k m : ℕ) (K : Set) → outside k m K ≤ k
outside_le zero m K = omega arith
outside_le (suc k) m K = go (K m) (outside_le k (suc m) K)
  where
    go : (b : Bool) → outside k (suc m) K ≤ k → cond b 0 1 + outside k (suc m) K ≤ suc k
    go true r = omega arith
    go false r = omega arith

outside_below : (k m e : ℕ) (K : Set) → e < m → outside k m (put e true K) ≡ outside k m K
outside_below zero m e K l = refl
outside_below (suc k) m e K l = ap₂ (λ b r. cond b 0 1 + r) (put_other e true K m (λ q. omega arith)) (outside_below k (suc m) e K (omega arith))

-- one less with each new event
pub outside_falls : (k m e : ℕ) (K : Set) → m ≤ e → e < m + k → K e ≡ false → suc (outside k m (put e true K)) ≡ outside k m K
outside_falls zero m e K l h q = absurd (omega arith)
outside_falls (suc k) m e K l h q = go (eqb_or m e) (outside_falls k (suc m) e K)
  where
    go : (m ≡ e) ⊎ (eqb m e ≡ false) → (suc m ≤ e → e < suc m + k → K e ≡ false → suc (outside k (suc m) (put e true K)) ≡ outside k (suc m) K)
        → suc (cond (put e true K m) 0 1 + outside k (suc m) (put e true K)) ≡ cond (K m) 0 1 + outside k (suc m) K
    go (inl w) r =
        let x : put e true K m ≡ true = ap (put e true K) w ∙ put_same e true K in
        let y : K m ≡ false = ap K w ∙ q in
        omega (arith, ap {B = ℕ} (λ b. cond b 0 1) x, ap {B = ℕ} (λ b. cond b 0 1) y, outside_below k (suc m) e K (omega arith))
    go (inr w) r =
        let x : put e true K m ≡ K m = put_other e true K m (eqb-false m e w) in
        omega (arith, ap {B = ℕ} (λ b. cond b 0 1) x, r (omega (arith, eqb-false m e w)) (omega arith) q)

outside_none : (k m i : ℕ) (K : Set) → outside k m K ≡ 0 → m ≤ i → i < m + k → K i ≡ true
outside_none zero m i K h l u = absurd (omega arith)
outside_none (suc k) m i K h l u = go (K m) refl h (outside_none k (suc m) i K)
  where
    go : (b : Bool) → K m ≡ b → cond b 0 1 + outside k (suc m) K ≡ 0 → (outside k (suc m) K ≡ 0 → suc m ≤ i → i < suc m + k → K i ≡ true) → K i ≡ true
    go true q h r = pick (eqb_or i m)
      where
        pick : (i ≡ m) ⊎ (eqb i m ≡ false) → K i ≡ true
        pick (inl w) = ap K w ∙ q
        pick (inr w) = r (omega arith) (omega (arith, eqb-false i m w)) (omega arith)
    go false q h r = absurd (omega arith)

-- ---- an event that a cut left holds is new

some_in : {A : Type 0} (l : List A) → 0 < length l → (x : A) × In x l
some_in [] h = absurd (omega arith)
some_in (x ∷ l) h = (x, inl refl)

length_some : {A : Type 0} (x : A) (l : List A) → In x l → 0 < length l
length_some x [] h = absurd h
length_some x (y ∷ l) h = omega arith

pub fresh : (n : ℕ) (l : List Set) (K : Set) (e : ℕ) → e < n → 0 < holding n K l e → K e ≡ false
unfolding holding
fresh n l K e x h =
    let (T, i) = some_in (keep (λ T. T e) (remaining n K l)) h in
    let (j, t) = keep_in (λ T. T e) T (remaining n K l) i in
    let (k, q) = keep_in (misses n K) T l j in
    not_true (K e) (λ w. true≢false (sym t ∙ misses_at n K T q e x w))

zero_or : (x : ℕ) → (x ≡ 0) ⊎ (0 < x)
zero_or zero = inl refl
zero_or (suc x) = inr (omega arith)

-- ---- THE STEPS END, after at most as many as there are events not in K

plan_from_lem : (n : ℕ) (l : List Set) → 1 ≤ n → (k : ℕ) (K : Set) → outside n 0 K ≤ k → Plans n l K (plan_from k n l K)
plan_from_lem n l one zero K h = ends (λ i x. go i x (zero_or (holding n K l i)))
  where
    go : (i : ℕ) → i < n → (holding n K l i ≡ 0) ⊎ (0 < holding n K l i) → holding n K l i ≡ 0
    go i x (inl e) = e
    go i x (inr e) = absurd (true≢false (sym (outside_none n 0 i K (omega arith) (omega arith) (omega arith)) ∙ fresh n l K i x e))
plan_from_lem n l one (suc k) K h = go (eqb (holding n K l (choice n l K)) 0) refl (plan_from_lem n l one k (put (choice n l K) true K))
  where
    b : Greatest (holding n K l) n (choice n l K)
    b = greatest_law (holding n K l) n

    go : (t : Bool) → eqb (holding n K l (choice n l K)) 0 ≡ t → (outside n 0 (put (choice n l K) true K) ≤ k → Plans n l (put (choice n l K) true K) (plan_from k n l (put (choice n l K) true K)))
        → Plans n l K (cond t K (plan_from k n l (put (choice n l K) true K)))
    go true q r = ends {K = K} (λ i x. omega (arith, b.most i x, eqb-true (holding n K l (choice n l K)) 0 q))
    go false q r =
        let p : 0 < holding n K l (choice n l K) = omega (arith, eqb-false (holding n K l (choice n l K)) 0 q) in
        let x : choice n l K < n = omega (arith, b.inside, one) in
        let u = fresh n l K (choice n l K) x p in
        takes (choice n l K) (record { event = x; some = p; most = b.most; lowest = b.lowest })
        (r (omega (arith, h, outside_falls n 0 (choice n l K) K (omega arith) (omega (arith, x)) u)))

-- it is what is computed
pub plan_is : (n : ℕ) (l : List Set) → Plans n l none (plan_of n l)
unfolding plan_of
plan_is zero l = ends (λ e h. absurd (omega arith))
plan_is (suc n) l = plan_from_lem (suc n) l (omega arith) (suc n) none (outside_le (suc n) 0 none)

-- no cut left holds an event
pub plans_end : {n : ℕ} {l : List Set} {K R : Set} → Plans n l K R → (e : ℕ) → e < n → holding n R l e ≡ 0
plans_end (ends h) = h
plans_end (takes e c p) = plans_end p

-- how many events it takes
abbrev pub taken : {n : ℕ} {l : List Set} {K R : Set} → Plans n l K R → ℕ
taken (ends h) = 0
taken (takes e c p) = suc (taken p)

taken_less : {n : ℕ} {l : List Set} {K R : Set} (p : Plans n l K R) → taken p ≤ outside n 0 K
taken_less (ends h) = omega arith
taken_less {n} {l} {K} (takes e c p) =
    let x = c.event in
    let f = outside_falls n 0 e K (omega arith) (omega (arith, x)) (fresh n l K e x c.some) in
    let r = taken_less p in
    omega (arith, f, r)

-- AT MOST n EVENTS are taken, and the cuts are counted once more than that
pub taken_few : {n : ℕ} {l : List Set} {R : Set} (p : Plans n l none R) → taken p ≤ n
taken_few {n} p = let a = taken_less p in let b = outside_le n 0 none in omega (arith, a, b)

-- ONE PLAN
pub plans_once : {n : ℕ} {l : List Set} {K R Q : Set} → Plans n l K R → Plans n l K Q → R ≡ Q
plans_once (ends h) (ends g) = refl
plans_once (ends h) (takes e c p) = absurd (omega (arith, h e c.event, c.some))
plans_once (takes e c p) (ends h) = absurd (omega (arith, h e c.event, c.some))
plans_once {n} {l} {K} {R} {Q} (takes e c p) (takes i d q) = plans_once p (subst (λ j. Plans n l (put j true K) Q) (sym same) q)
  where
    go : Three e i → e ≡ i
    go (below x _) = absurd (omega (arith, d.lowest e x, c.most i d.event))
    go (beyond x _ _) = absurd (omega (arith, c.lowest i x, d.most e c.event))
    go (equal x _ _) = x

    same : e ≡ i
    same = go (three e i)

-- ---- the counts fall as events are taken, so that the greatest are those before the first

pub counts_fall : (n : ℕ) (K M : Set) (e : ℕ) → Part K M → (l : List Set) → holding n M l e ≤ holding n K l e
unfolding holding
counts_fall n K M e p [] = omega arith
counts_fall n K M e p (T ∷ l) = go (misses n M T) (misses n K T) (T e) refl (λ h. at_misses n K T (λ i x k. misses_at n M T h i x (p i k))) (counts_fall n K M e p l)
  where
    go : (x y t : Bool) → T e ≡ t → (x ≡ true → y ≡ true) → length (keep (λ S. S e) (remaining n M l)) ≤ length (keep (λ S. S e) (remaining n K l))
        → length (keep (λ S. S e) (cond x (T ∷ remaining n M l) (remaining n M l))) ≤ length (keep (λ S. S e) (cond y (T ∷ remaining n K l) (remaining n K l)))
    go true true true q f r = rw q (omega arith)
    go true true false q f r = rw q r
    go true false t q f r = absurd (false≢true (f refl))
    go false true true q f r = rw q (omega arith)
    go false true false q f r = rw q r
    go false false t q f r = r

-- ---- what is planned is safe exactly if the empty set is no cut

module _ (n : ℕ) (l : List Set) (within : (T : Set) → In T l → Within n T) where
  -- no cut left holds an event: then every cut but the empty one meets R
  end_meets : (R : Set) → ((i : ℕ) → i < n → holding n R l i ≡ 0) → (T : Set) → In T l → misses n R T ≡ true → T ≡ none
  unfolding holding
  end_meets R h T i t = fun_ext (λ e. not_true (T e) (λ q. go e q (three e n)))
    where
      go : (e : ℕ) → T e ≡ true → Three e n → ⊥
      go e q (below x _) = let s : 0 < length (keep (λ S. S e) (remaining n R l)) = length_some T (keep (λ S. S e) (remaining n R l)) (in_keep (λ S. S e) T (remaining n R l) (in_keep (misses n R) T l i t) q) in omega (arith, h e x, s)
      go e q (beyond x _ _) = true≢false (sym q ∙ within T i e (omega arith))
      go e q (equal x _ _) = true≢false (sym q ∙ within T i e (omega arith))

  pub plan_safe : (F : Fun) → Decides l F → {K R : Set} → Plans n l K R → Safe F R ↔ (In none l → ⊥)
  plan_safe F decides {K} {R} p = (
    (λ b i. always_fails F R ((decides none).1 (none, i, λ j q. q)) b),
    (λ h. (safe_law n l F within decides R).1 (keep_none (misses n R) l (λ T i. not_true (misses n R T) (λ t. h (subst (λ S. In S l) (end_meets R (plans_end p) T i t) i))))),
  )
