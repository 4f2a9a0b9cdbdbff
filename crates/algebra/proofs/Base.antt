-- Small facts on tests, sets and `mk_d`.
-- Assumes nothing.
use mathlib.Core.Path.{◌≡◌, refl, sym, ap, ◌∙◌}
use mathlib.Core.Logic.{◌≢◌, ◌⊎◌, inl, inr, ite, if_pos, if_neg}
use mathlib.Core.Bool.{Bool, true, false, cond}
use Prim.Native.Nat.{ℕ, suc, ◌≤◌, ◌<◌}
use native.Mathlib.Omega.{arith}
use lib.Dec.{eqb, ltb}
use borrow.Author.Tests.{eqb-true, eq-eqb, ne_eqb, ltb-true, ltb-false}
use Rattle.paper.specs.Sets.{Set, put}
use Rattle.paper.specs.Diagrams.{Diagram, leaf, node, eval, Ordered, Reduced, mk_d, Diagram-discrete}

pub eqb_same : (e : ℕ) → eqb e e ≡ true
eqb_same e = eq-eqb e e refl

pub eqb_or : (a b : ℕ) → (a ≡ b) ⊎ (eqb a b ≡ false)
eqb_or a b = go (eqb a b) refl
  where
    go : (t : Bool) → eqb a b ≡ t → (a ≡ b) ⊎ (eqb a b ≡ false)
    go true h = inl (eqb-true a b h)
    go false h = inr h

-- equal nodes have equal parts
pub same_node : {e e' : ℕ} {f f' s s' : Diagram} → node e f s ≡ node e' f' s' → (e ≡ e') × (f ≡ f') × (s ≡ s')
same_node p = (cc, cc, cc)

pub cond_same : {A : Type 0} (b : Bool) (x : A) → cond b x x ≡ x
cond_same true x = refl
cond_same false x = refl

pub cond_map : {A B : Type 0} (g : A → B) (b : Bool) (x y : A) → g (cond b x y) ≡ cond b (g x) (g y)
cond_map g true x y = refl
cond_map g false x y = refl

-- what two values have, the chosen one has
pub cond_all : {A : Type 0} (P : A → Type 0) (b : Bool) (x y : A) → P x → P y → P (cond b x y)
cond_all P true x y p q = p
cond_all P false x y p q = q

pub put_same : (e : ℕ) (b : Bool) (v : Set) → put e b v e ≡ b
put_same e b v = rw (eqb_same e)

pub put_other : (e : ℕ) (b : Bool) (v : Set) (i : ℕ) → i ≢ e → put e b v i ≡ v i
put_other e b v i h = rw (ne_eqb i e h)

pub mk_same : (e : ℕ) (f s : Diagram) → f ≡ s → mk_d e f s ≡ f
mk_same e f s h = if_pos (Diagram-discrete f s) h f (node e f s)

pub mk_node : (e : ℕ) (f s : Diagram) → f ≢ s → mk_d e f s ≡ node e f s
mk_node e f s h = if_neg (Diagram-discrete f s) h f (node e f s)

-- what mk_d makes has what its two results have
pub mk_cases : (P : Diagram → Type 0) (e : ℕ) (f s : Diagram) → (f ≡ s → P f) → (f ≢ s → P (node e f s)) → P (mk_d e f s)
mk_cases P e f s a b = go (Diagram-discrete f s)
  where
    go : (d : Dec (f ≡ s)) → P (ite d f (node e f s))
    go (yes h) = a h
    go (no h) = b h

pub eval_mk : (e : ℕ) (f s : Diagram) (v : Set) → eval (mk_d e f s) v ≡ cond (v e) (eval f v) (eval s v)
eval_mk e f s v = mk_cases (λ d. eval d v ≡ cond (v e) (eval f v) (eval s v)) e f s
    (λ h. sym (cond_same (v e) (eval f v)) ∙ ap (λ g. cond (v e) (eval f v) (eval g v)) h)
    (λ h. refl)

pub reduced_mk : (e : ℕ) (f s : Diagram) → Reduced f → Reduced s → Reduced (mk_d e f s)
reduced_mk e f s a b = mk_cases Reduced e f s (λ h. a) (λ h. (h, a, b))

-- a wider range of events
pub widen : (m k n : ℕ) (d : Diagram) → k ≤ m → Ordered m n d → Ordered k n d
widen m k n (leaf b) h o = tt
widen m k n (node e f s) h o = (omega (arith, o.0), o.1, o.2, o.3)

pub lengthen : (m n k : ℕ) (d : Diagram) → n ≤ k → Ordered m n d → Ordered m k d
lengthen m n k (leaf b) l o = tt
lengthen m n k (node e f s) l o = (o.0, omega (arith, o.1), lengthen (suc e) n k f l o.2, lengthen (suc e) n k s l o.3)

pub ordered_mk : (n e : ℕ) (f s : Diagram) → e < n → Ordered (suc e) n f → Ordered (suc e) n s → Ordered e n (mk_d e f s)
ordered_mk n e f s h a b = mk_cases (Ordered e n) e f s (λ q. widen (suc e) e n f (omega arith) a) (λ q. (omega arith, h, a, b))

-- two events compared, with the tests that compare them
pub data Three (e x : ℕ) : Type 0 where
  below : e < x → ltb e x ≡ true → Three e x
  beyond : x < e → ltb e x ≡ false → ltb x e ≡ true → Three e x
  equal : e ≡ x → ltb e x ≡ false → ltb x e ≡ false → Three e x

pub three : (e x : ℕ) → Three e x
three e x = go (ltb e x) refl (ltb x e) refl
  where
    go : (a : Bool) → ltb e x ≡ a → (b : Bool) → ltb x e ≡ b → Three e x
    go true p b q = below (ltb-true e x p) p
    go false p true q = beyond (ltb-true x e q) p q
    go false p false q = equal (omega (arith, ltb-false e x p, ltb-false x e q)) p q
