-- The two numbers of a diagram depend on its function alone, also where the diagram tests an event that does not matter.
-- Assumes nothing.
use mathlib.Core.Path.{◌≡◌, sym, ap, ap₂, ◌∙◌, fun_ext}
use mathlib.Core.Bool.{Bool, true, false, cond}
use Prim.Native.Nat.{ℕ, zero, suc, ◌+◌, ◌*◌, ◌-◌, ◌≤◌, ◌<◌}
use native.Mathlib.Nat.{div-eq_of_lt-le, add-sub_of_le, suc-mul, mul_comm}
use native.Mathlib.Omega.{arith}
use Rattle.paper.specs.Sets.{none, put}
use Rattle.paper.specs.Diagrams.{Diagram, eval, Ordered}
use Rattle.paper.specs.Chance.{mix, bound, low, high}
use Rattle.algebra.specs.Operations.{fix_d}
use Rattle.algebra.proofs.Fix.{Top, at, above, top, at_end, fix_at, fix_above, ordered_fix, eval_fix}

module _ (D : ℕ) (a : ℕ → ℕ) (c : ℕ) (small : c < D) where
  -- a mixture of a number with itself is that number
  mix_same : (e x : ℕ) → a e ≤ D → mix D a c e x x ≡ x
  mix_same e x h = div-eq_of_lt-le D (omega (arith, whole, mul_comm x D)) (omega (arith, whole, suc-mul x D, mul_comm x D))
    where
      whole : a e * x + (D - a e) * x ≡ D * x
      whole = omega (arith, ap (λ n. n * x) (add-sub_of_le h))

  -- a diagram's number by its first event
  bound_top : (m n : ℕ) (d : Diagram) → (m < n → a m ≤ D) → m < n → Ordered m n d → bound D a c d ≡ mix D a c m (bound D a c (fix_d m true d)) (bound D a c (fix_d m false d))
  bound_top m n d h l o = go d (top m n d o)
    where
      go : (d : Diagram) → Top m n d → bound D a c d ≡ mix D a c m (bound D a c (fix_d m true d)) (bound D a c (fix_d m false d))
      go d (at f s q x y) = rw (fix_at m true f s, fix_at m false f s)
      go d (above d' x) = rw (fix_above m n true d' x, fix_above m n false d' x) (sym (mix_same m (bound D a c d') (h l)))

  bound_from : (k m n : ℕ) → m + k ≡ n → ((i : ℕ) → i < n → a i ≤ D) → (d b : Diagram) → Ordered m n d → Ordered m n b → eval d ≡ eval b → bound D a c d ≡ bound D a c b
  bound_from zero m n q h d b od ob e =
      let (x, p) = at_end m n d (omega arith) od in
      let (y, r) = at_end m n b (omega arith) ob in
      ap (bound D a c) p ∙ ap (λ z. cond z D 0) (sym (ap (λ z. eval z none) p) ∙ ap (λ F. F none) e ∙ ap (λ z. eval z none) r) ∙ sym (ap (bound D a c) r)
  bound_from (suc k) m n q h d b od ob e =
      let half : (z : Bool) → bound D a c (fix_d m z d) ≡ bound D a c (fix_d m z b) = λ z.
      bound_from k (suc m) n (omega arith) h (fix_d m z d) (fix_d m z b) (ordered_fix m n z d od) (ordered_fix m n z b ob)
      (fun_ext (λ v. eval_fix m n z d v od ∙ ap (λ F. F (put m z v)) e ∙ sym (eval_fix m n z b v ob))) in
      bound_top m n d (h m) (omega arith) od ∙ ap₂ (mix D a c m) (half true) (half false) ∙ sym (bound_top m n b (h m) (omega arith) ob)

-- THE NUMBERS OF A FUNCTION: of two ordered diagrams of one function of n events
module _ (D n : ℕ) (a : ℕ → ℕ) (D0 : 0 < D) (chances : (i : ℕ) → i < n → a i ≤ D) (d b : Diagram) (od : Ordered 0 n d) (ob : Ordered 0 n b) (e : eval d ≡ eval b) where
  pub same_low : low D a d ≡ low D a b
  same_low = bound_from D a 0 D0 n 0 n (omega arith) chances d b od ob e

  pub same_high : high D a d ≡ high D a b
  same_high = bound_from D a (D - 1) (omega arith) n 0 n (omega arith) chances d b od ob e
