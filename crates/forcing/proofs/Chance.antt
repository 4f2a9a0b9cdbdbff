-- THE CHANCE UNDER SETTINGS: the sum over all events, with D or 0 for the forced ones, is the sum of the function with the forced events fixed.
-- Assumes nothing.
use mathlib.Core.Path.{◌≡◌, refl, sym, ap, ap₂, ◌∙◌, subst, fun_ext}
use mathlib.Core.Logic.{◌≢◌, ◌⊎◌, inl, inr}
use mathlib.Core.Bool.{Bool, true, false, cond}
use Prim.Native.Nat.{ℕ, zero, suc, ◌+◌, ◌*◌, ◌-◌, ◌≤◌, ◌<◌}
use native.Mathlib.Omega.{arith}
use lib.Dec.{eqb, ltb}
use borrow.Author.Tests.{ne_eqb, eqb-false, ltb-true, ltb-false}
use Rattle.paper.specs.Limits.{billion}
use Rattle.paper.specs.Sets.{Set, put}
use Rattle.paper.specs.Functions.{Fun, fix_f}
use Rattle.paper.specs.Chance.{total}
use Rattle.paper.specs.Store.{State, free, failed, sound, Settings}
use Rattle.paper.specs.Forcing.{settle, settled, force_f, chance_as}
use Rattle.algebra.proofs.Base.{put_same, put_other, eqb_same, eqb_or}
use Rattle.algebra.proofs.Sets.{set_ext}
use Rattle.algebra.proofs.Bracket.{total_step}
use Rattle.settings.specs.States.{all_free}

-- ---- one event less

freed : ℕ → Settings → Settings
freed m s e = cond (eqb e m) free (s e)

freed_other : (m : ℕ) (s : Settings) (e : ℕ) → e ≢ m → freed m s e ≡ s e
unfolding freed
freed_other m s e h = rw (ne_eqb e m h)

freed_at : (m : ℕ) (s : Settings) → freed m s m ≡ free
unfolding freed
freed_at m s = rw (eqb_same m)

settled_put : (s : Settings) (m : ℕ) (b : Bool) (v : Set) → settled s (put m b v) ≡ put m (settle (s m) b) (settled (freed m s) v)
settled_put s m b v = set_ext m (settled s (put m b v)) (put m (settle (s m) b) (settled (freed m s) v))
    (ap (settle (s m)) (put_same m b v) ∙ sym (put_same m (settle (s m) b) (settled (freed m s) v)))
    (λ i n. ap (settle (s i)) (put_other m b v i n) ∙ ap (λ x. settle x (v i)) (sym (freed_other m s i n)) ∙ sym (put_other m (settle (s m) b) (settled (freed m s) v) i n))

fix_force : (s : Settings) (m : ℕ) (b : Bool) (F : Fun) → fix_f m b (force_f s F) ≡ force_f (freed m s) (fix_f m (settle (s m) b) F)
fix_force s m b F = fun_ext (λ v. ap F (settled_put s m b v))

-- ---- the sum

-- a chance that suits the state
abbrev Suits : ℕ → State → ℕ → Type 0
Suits D free x = Unit {0}
Suits D failed x = x ≡ D
Suits D sound x = x ≡ 0

module _ (D : ℕ) (a : ℕ → ℕ) where
  none_forced : (s : Settings) → ((e : ℕ) → s e ≡ free) → (F : Fun) → force_f s F ≡ F
  none_forced s h F = ap (λ x. force_f x F) (let q : s ≡ all_free = fun_ext h in q)

  total_force : (k m : ℕ) (s : Settings) (F : Fun) → ((e : ℕ) → (e < m) ⊎ (m + k ≤ e) → s e ≡ free) → ((e : ℕ) → m ≤ e → Suits D (s e) (a e))
      → total D a k m F ≡ total D a k m (force_f s F)
  total_force zero m s F out fit = ap (total D a zero m) (sym (none_forced s (λ e. go e (ltb e m) refl) F))
    where
      go : (e : ℕ) (b : Bool) → ltb e m ≡ b → s e ≡ free
      go e true q = out e (inl (ltb-true e m q))
      go e false q = out e (inr (let l = ltb-false e m q in omega arith))
  total_force (suc k) m s F out fit =
      total_step D a k m F
      ∙ mixed (s m) (fit m (omega arith))
      ∙ ap₂ (λ x y. a m * x + (D - a m) * y)
      (total_force k (suc m) (freed m s) (fix_f m (settle (s m) true) F) out' fit' ∙ ap (total D a k (suc m)) (sym (fix_force s m true F)))
      (total_force k (suc m) (freed m s) (fix_f m (settle (s m) false) F) out' fit' ∙ ap (total D a k (suc m)) (sym (fix_force s m false F)))
      ∙ sym (total_step D a k m (force_f s F))
    where
      out' : (e : ℕ) → (e < suc m) ⊎ (suc m + k ≤ e) → freed m s e ≡ free
      out' e h = pick (eqb_or e m) h
        where
          pick : (e ≡ m) ⊎ (eqb e m ≡ false) → (e < suc m) ⊎ (suc m + k ≤ e) → freed m s e ≡ free
          pick (inl q) h = subst (λ i. freed m s i ≡ free) (sym q) (freed_at m s)
          pick (inr q) (inl h) = freed_other m s e (eqb-false e m q) ∙ out e (inl (let n = eqb-false e m q in omega arith))
          pick (inr q) (inr h) = freed_other m s e (eqb-false e m q) ∙ out e (inr (omega arith))

      fit' : (e : ℕ) → suc m ≤ e → Suits D (freed m s e) (a e)
      fit' e h = subst (λ y. Suits D y (a e)) (sym (freed_other m s e (λ q. omega arith))) (fit e (omega arith))

      T : Bool → ℕ
      T b = total D a k (suc m) (fix_f m b F)

      mixed : (y : State) → Suits D y (a m) → a m * T true + (D - a m) * T false ≡ a m * T (settle y true) + (D - a m) * T (settle y false)
      mixed free h = refl
      mixed failed h = let z : D - a m ≡ 0 = omega arith in rw z (omega arith)
      mixed sound h = rw h (omega arith)

-- THE EXACT CHANCE of F, with chances a that are those of n events under settings, is that of F with the forced events fixed
pub chance_forced : (s : Settings) (n : ℕ) (own a : ℕ → ℕ) → ((e : ℕ) → n ≤ e → s e ≡ free) → ((e : ℕ) → e < n → a e ≡ chance_as billion (own e) (s e)) → (F : Fun)
    → total billion a n 0 F ≡ total billion a n 0 (force_f s F)
chance_forced s n own a in-range each F = total_force billion a n 0 s F out (λ e l. fit e (ltb e n) refl)
  where
    out : (e : ℕ) → (e < 0) ⊎ (0 + n ≤ e) → s e ≡ free
    out e (inl h) = absurd (omega arith)
    out e (inr h) = in-range e (omega arith)

    suits : (x : ℕ) (y : State) → Suits billion y (chance_as billion x y)
    suits x free = tt
    suits x failed = refl
    suits x sound = refl

    fit : (e : ℕ) (b : Bool) → ltb e n ≡ b → Suits billion (s e) (a e)
    fit e true q = subst (λ x. Suits billion (s e) x) (sym (each e (ltb-true e n q))) (suits (own e) (s e))
    fit e false q = subst (λ y. Suits billion y (a e)) (sym (in-range e (ltb-false e n q))) tt
