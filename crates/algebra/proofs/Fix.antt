-- Fixing the first event of an ordered diagram.
-- Assumes nothing.
use mathlib.Core.Path.{◌≡◌, refl, sym, subst}
use mathlib.Core.Logic.{◌⊎◌, inl, inr}
use mathlib.Core.Bool.{Bool, true, false, cond}
use Prim.Native.Nat.{ℕ, suc, ◌≤◌, ◌<◌}
use native.Mathlib.Omega.{arith}
use lib.Dec.{eqb}
use borrow.Author.Tests.{ne_eqb, eqb-false}
use Rattle.paper.specs.Sets.{Set, put}
use Rattle.paper.specs.Diagrams.{Diagram, leaf, node, eval, Ordered, Reduced, mk_d}
use Rattle.algebra.specs.Operations.{fix_d}
use Rattle.algebra.proofs.Base.{eqb_or, eqb_same, put_same, put_other, mk_same, mk_node, widen, cond_same, cond_all, cond_map}

-- events below a diagram's own do not matter to it
pub eval_put : (m n : ℕ) (d : Diagram) (b : Bool) (v : Set) → Ordered (suc m) n d → eval d (put m b v) ≡ eval d v
eval_put m n (leaf c) b v o = refl
eval_put m n (node e f s) b v o =
    rw (
      put_other m b v e (λ q. omega (arith, o.0, q)),
      eval_put m n f b v (widen (suc e) (suc m) n f (omega (arith, o.0)) o.2),
      eval_put m n s b v (widen (suc e) (suc m) n s (omega (arith, o.0)) o.3),
    )

-- a node that stands above m is left as it is
pub fix_above : (m n : ℕ) (b : Bool) (d : Diagram) → Ordered (suc m) n d → fix_d m b d ≡ d
fix_above m n b (leaf c) o = refl
fix_above m n b (node e f s) o = rw (ne_eqb e m (λ q. omega (arith, o.0, q)))

-- either the first event is at the root, or the diagram does not have it
pub data Top (m n : ℕ) : Diagram → Type 0 where
  at : (f s : Diagram) → m < n → Ordered (suc m) n f → Ordered (suc m) n s → Top m n (node m f s)
  above : (d : Diagram) → Ordered (suc m) n d → Top m n d

pub top : (m n : ℕ) (d : Diagram) → Ordered m n d → Top m n d
top m n (leaf b) o = above (leaf b) tt
top m n (node e f s) o = go (eqb_or e m)
  where
    go : (e ≡ m) ⊎ (eqb e m ≡ false) → Top m n (node e f s)
    go (inl q) = subst (λ x. Top m n (node x f s)) (sym q)
        (at f s (omega (arith, o.1, q)) (subst (λ x. Ordered (suc x) n f) q o.2) (subst (λ x. Ordered (suc x) n s) q o.3))
    go (inr q) = above (node e f s) (omega (arith, o.0, eqb-false e m q), o.1, o.2, o.3)

pub fix_at : (m : ℕ) (b : Bool) (f s : Diagram) → fix_d m b (node m f s) ≡ cond b f s
fix_at m b f s = rw (eqb_same m)

pub ordered_fix : (m n : ℕ) (b : Bool) (d : Diagram) → Ordered m n d → Ordered (suc m) n (fix_d m b d)
ordered_fix m n b d o = go d (top m n d o)
  where
    go : (d : Diagram) → Top m n d → Ordered (suc m) n (fix_d m b d)
    go d (at f s h x y) = rw (fix_at m b f s) (cond_all (Ordered (suc m) n) b f s x y)
    go d (above d' x) = rw (fix_above m n b d' x) x

pub reduced_fix : (m : ℕ) (b : Bool) (d : Diagram) → Reduced d → Reduced (fix_d m b d)
reduced_fix m b (leaf c) r = tt
reduced_fix m b (node e f s) r =
    cond_all Reduced (eqb e m) (cond b f s) (node e f s) (cond_all Reduced b f s r.1 r.2) r

-- the value of a diagram with its first event fixed
pub eval_fix : (m n : ℕ) (b : Bool) (d : Diagram) (v : Set) → Ordered m n d → eval (fix_d m b d) v ≡ eval d (put m b v)
eval_fix m n b d v o = go d (top m n d o)
  where
    go : (d : Diagram) → Top m n d → eval (fix_d m b d) v ≡ eval d (put m b v)
    go d (at f s h x y) = rw (fix_at m b f s, put_same m b v, eval_put m n f b v x, eval_put m n s b v y) (cond_map (λ d. eval d v) b f s)
    go d (above d' x) = rw (fix_above m n b d' x, eval_put m n d' b v x)

-- a reduced diagram is made again from what fixing its first event leaves
pub mk_fix : (m n : ℕ) (d : Diagram) → Ordered m n d → Reduced d → mk_d m (fix_d m true d) (fix_d m false d) ≡ d
mk_fix m n d o r = go d (top m n d o) r
  where
    go : (d : Diagram) → Top m n d → Reduced d → mk_d m (fix_d m true d) (fix_d m false d) ≡ d
    go d (at f s h x y) r = rw (fix_at m true f s, fix_at m false f s) (mk_node m f s r.0)
    go d (above d' x) r = rw (fix_above m n true d' x, fix_above m n false d' x) (mk_same m d' d' refl)

-- no event is left: a leaf
pub at_end : (m n : ℕ) (d : Diagram) → n ≤ m → Ordered m n d → (c : Bool) × (d ≡ leaf c)
at_end m n (leaf c) h o = (c, refl)
at_end m n (node e f s) h o = absurd (omega (arith, o.0, o.1))

-- only the events in range matter
pub eval_agree : (m n : ℕ) (d : Diagram) (v w : Set) → Ordered m n d → ((i : ℕ) → m ≤ i → i < n → v i ≡ w i) → eval d v ≡ eval d w
eval_agree m n (leaf b) v w o h = refl
eval_agree m n (node e f s) v w o h =
    rw (
      h e o.0 o.1,
      eval_agree (suc e) n f v w o.2 (λ i a b. h i (omega (arith, o.0)) b),
      eval_agree (suc e) n s v w o.3 (λ i a b. h i (omega (arith, o.0)) b),
    )

-- a diagram's value by its first event
pub eval_top : (m n : ℕ) (d : Diagram) (v : Set) → Ordered m n d
    → eval d v ≡ cond (v m) (eval (fix_d m true d) v) (eval (fix_d m false d) v)
eval_top m n d v o = go d (top m n d o)
  where
    go : (d : Diagram) → Top m n d → eval d v ≡ cond (v m) (eval (fix_d m true d) v) (eval (fix_d m false d) v)
    go d (at f s h x y) = rw (fix_at m true f s, fix_at m false f s)
    go d (above d' x) = rw (fix_above m n true d' x, fix_above m n false d' x) (sym (cond_same (v m) (eval d' v)))
