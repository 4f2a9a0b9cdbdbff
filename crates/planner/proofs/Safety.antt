-- What is safe and what is accepted, by the cuts that remain.
-- Assumes nothing.
use mathlib.Core.Path.{◌≡◌, refl, sym, ap, ◌∙◌, subst}
use mathlib.Core.Logic.{◌⊎◌, inl, inr, ◌↔◌}
use mathlib.Core.Bool.{Bool, true, false, cond, not, ◌&&◌, ◌||◌, true≢false, false≢true}
use mathlib.Core.List.{List, [], ◌∷◌}
use Prim.Native.Nat.{ℕ, zero, suc, ◌+◌, ◌≤◌, ◌<◌}
use native.Mathlib.Omega.{arith}
use lib.Dec.{eqb}
use borrow.Author.Tests.{eqb-false}
use Rattle.paper.specs.Lists.{In, keep}
use Rattle.paper.specs.Sets.{Set, none, put, Part, part_of, Within}
use Rattle.paper.specs.Functions.{Fun, Monotone}
use Rattle.paper.specs.Planner.{Apart, Safe, Accepted, misses, remaining, FirstMissing, Decides, fails_by}
use Rattle.algebra.proofs.Base.{eqb_or, three, Three, below, beyond, equal}
use Rattle.algebra.proofs.Lists.{in_keep, keep_none}
use Rattle.algebra.proofs.Sets.{not_true}
use Rattle.remaining.proofs.Missing.{both_true, misses_apart, apart_misses}
use Rattle.remaining.proofs.Once.{first_in}

-- ---- of any function

-- A ROOT THAT ALWAYS FAILS has no accepted set, and none that is safe
pub always_fails : (F : Fun) (K : Set) → F none ≡ true → Safe F K → ⊥
always_fails F K t h = true≢false (sym t ∙ h none (λ i k. refl))

pub never_accepted : (F : Fun) (K : Set) → F none ≡ true → Accepted F K → ⊥
never_accepted F K t h = always_fails F K t h.safe

-- THE EMPTY SET is accepted exactly if the root can't fail
pub empty_accepted : (F : Fun) → Accepted F none ↔ ((S : Set) → F S ≡ false)
empty_accepted F = (
  (λ h S. h.safe S (λ i k. absurd (false≢true k))),
  (λ h. record { safe = λ S a. h S; needed = λ e k. absurd (false≢true k) }),
)

-- for a monotone function: all but K fail, and the root does not
pub safe_others : (F : Fun) (K : Set) → Monotone F → Safe F K ↔ (F (λ i. not (K i)) ≡ false)
safe_others F K m = (
  (λ h. h (λ i. not (K i)) (λ i k. ap not k)),
  (λ q S a. not_true (F S) (λ t. true≢false (sym (m S (λ i. not (K i)) (inside S a) t) ∙ q))),
)
  where
    inside : (S : Set) → Apart K S → Part S (λ i. not (K i))
    inside S a i t = ap not (not_true (K i) (λ k. true≢false (sym t ∙ a i k)))

-- ---- by the cuts that remain

keep_nil : {A : Type 0} (t : A → Bool) (l : List A) → keep t l ≡ [] → (x : A) → In x l → t x ≡ false
keep_nil t l h x i = not_true (t x) (λ q. subst (In x) h (in_keep t x l i q))

module _ (n : ℕ) (l : List Set) (F : Fun) (within : (T : Set) → In T l → Within n T) (decides : Decides l F) where
  -- SAFE exactly if no cut remains
  pub safe_law : (K : Set) → Safe F K ↔ (remaining n K l ≡ [])
  safe_law K = (
    (λ h. keep_none (misses n K) l (λ T i. not_true (misses n K T) (λ t.
        true≢false (sym ((decides T).1 (T, i, λ j q. q)) ∙ h T (misses_apart n K T (within T i) t))))),
    (λ q S a. not_true (F S) (λ t.
        let (T, i, p) = (decides S).0 t in
        true≢false (sym (apart_misses n K T (λ j k. not_true (T j) (λ w. true≢false (sym (p j w) ∙ a j k)))) ∙ keep_nil (misses n K) l q T i))),
  )

  -- a cut that misses K fails the root while K is sound
  pub first_fails : {K T : Set} → FirstMissing n K l T → (F T ≡ true) × Apart K T
  first_fails {K} {T} f = let (i, t) = first_in f in ((decides T).1 (T, i, λ j q. q), misses_apart n K T (within T i) t)

  pub first_unsafe : {K T : Set} → FirstMissing n K l T → Safe F K → ⊥
  first_unsafe {K} {T} f h = let (t, a) = first_fails f in true≢false (sym t ∙ h T a)

  -- ACCEPTED exactly if no cut remains, and without any one member some cut does
  pub accepted_law : (K : Set) → Accepted F K ↔ ((remaining n K l ≡ []) × ((e : ℕ) → K e ≡ true → remaining n (put e false K) l ≡ [] → ⊥))
  accepted_law K = (
    (λ h. ((safe_law K).0 h.safe, λ e k q. h.needed e k ((safe_law (put e false K)).1 q))),
    (λ h. record { safe = (safe_law K).1 h.0; needed = λ e k s. h.1 e k ((safe_law (put e false K)).0 s) }),
  )

-- two functions that one family decides have the same accepted sets
pub safe_both : (n : ℕ) (l : List Set) (F G : Fun) → ((T : Set) → In T l → Within n T) → Decides l F → Decides l G → (K : Set) → Safe F K → Safe G K
safe_both n l F G w d e K h = (safe_law n l G w e K).1 ((safe_law n l F w d K).0 h)

-- ---- any family of sets of n events decides a function

part_to : (k m : ℕ) (T S : Set) → part_of k m T S ≡ true → (i : ℕ) → m ≤ i → i < m + k → T i ≡ true → S i ≡ true
part_to zero m T S h i l u t = absurd (omega arith)
part_to (suc k) m T S h i l u t = go (both_true (cond (T m) (S m) true) (part_of k (suc m) T S) h) (eqb_or i m) (part_to k (suc m) T S)
  where
    go : (cond (T m) (S m) true ≡ true) × (part_of k (suc m) T S ≡ true) → (i ≡ m) ⊎ (eqb i m ≡ false)
        → (part_of k (suc m) T S ≡ true → (j : ℕ) → suc m ≤ j → j < suc m + k → T j ≡ true → S j ≡ true) → S i ≡ true
    go p (inl e) r = ap S e ∙ sym (ap (λ b. cond b (S m) true) (ap T (sym e) ∙ t)) ∙ p.0
    go p (inr e) r = r p.1 i (omega (arith, eqb-false i m e)) (omega arith) t

part_from : (k m : ℕ) (T S : Set) → ((i : ℕ) → T i ≡ true → S i ≡ true) → part_of k m T S ≡ true
part_from zero m T S h = refl
part_from (suc k) m T S h = go (T m) (h m) (part_from k (suc m) T S h)
  where
    go : (b : Bool) → (b ≡ true → S m ≡ true) → part_of k (suc m) T S ≡ true → (cond b (S m) true && part_of k (suc m) T S) ≡ true
    go true q r = rw (q refl) r
    go false q r = r

-- ANY FAMILY: its function fails exactly where one of its sets fails
pub family_decides : (n : ℕ) (l : List Set) → ((T : Set) → In T l → Within n T) → Decides l (fails_by n l)
family_decides n [] w S = ((λ h. absurd (false≢true h)), λ h. absurd h.1)
family_decides n (U ∷ l) w S = (
  (λ h. to (part_of n 0 U S) refl h (family_decides n l (λ T i. w T (inr i)) S).0),
  (λ h. from h h.1 (family_decides n l (λ T i. w T (inr i)) S).1),
)
  where
    inside : part_of n 0 U S ≡ true → Part U S
    inside q i t = go (three i n)
      where
        go : Three i n → S i ≡ true
        go (below x _) = part_to n 0 U S q i (omega arith) (omega arith) t
        go (beyond x _ _) = absurd (true≢false (sym t ∙ w U (inl refl) i (omega arith)))
        go (equal x _ _) = absurd (true≢false (sym t ∙ w U (inl refl) i (omega arith)))

    to : (b : Bool) → part_of n 0 U S ≡ b → (b || fails_by n l S) ≡ true → (fails_by n l S ≡ true → (T : Set) × In T l × Part T S) → (T : Set) × In T (U ∷ l) × Part T S
    to true q h r = (U, inl refl, inside q)
    to false q h r = let (T, i, p) = r h in (T, inr i, p)

    from : (h : (T : Set) × In T (U ∷ l) × Part T S) → In h.0 (U ∷ l) → ((T : Set) × In T l × Part T S → fails_by n l S ≡ true) → (part_of n 0 U S || fails_by n l S) ≡ true
    from h (inl e) r = rw (part_from n 0 U S (subst (λ T. Part T S) e h.2))
    from h (inr i) r = go (part_of n 0 U S)
      where
        go : (b : Bool) → (b || fails_by n l S) ≡ true
        go true = refl
        go false = r (h.0, i, h.2)
