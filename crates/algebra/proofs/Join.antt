-- `and` and `or` of diagrams.
-- Assumes nothing.
use mathlib.Core.Path.{◌≡◌, refl, sym, ap₂, ◌∙◌}
use mathlib.Core.Logic.{◌≢◌}
use mathlib.Core.Bool.{Bool, true, false, cond, beq}
use Prim.Native.Nat.{ℕ, zero, suc, ◌+◌}
use native.Mathlib.Omega.{arith}
use borrow.Author.Tests.{lt-ltb, le-ltb}
use Rattle.paper.specs.Sets.{Set}
use Rattle.paper.specs.Steps.{join}
use Rattle.paper.specs.Diagrams.{Diagram, leaf, node, eval, Ordered, Reduced, mk_d}
use Rattle.algebra.specs.Operations.{fix_d, join_d}
use Rattle.algebra.proofs.Base.{mk_same, mk_node, eval_mk, reduced_mk, ordered_mk, cond_map}
use Rattle.algebra.proofs.Fix.{Top, at, above, top, fix_at, fix_above, ordered_fix, reduced_fix, eval_top, at_end}

pub join_leaf : (z c : Bool) (d : Diagram) → join_d z d (leaf c) ≡ cond (beq c z) (leaf z) d
join_leaf true true (leaf true) = refl
join_leaf true true (leaf false) = refl
join_leaf true false (leaf true) = refl
join_leaf true false (leaf false) = refl
join_leaf false true (leaf true) = refl
join_leaf false true (leaf false) = refl
join_leaf false false (leaf true) = refl
join_leaf false false (leaf false) = refl
join_leaf z c (node e f s) = refl

-- the choice between two nodes' branches
mk_cond : (m : ℕ) (t : Bool) (x f s : Diagram) → f ≢ s → mk_d m (cond t x f) (cond t x s) ≡ cond t x (node m f s)
mk_cond m true x f s h = mk_same m x x refl
mk_cond m false x f s h = mk_node m f s h

-- The rule of joining: fix the first event both ways, and join.
pub join_rule : (z : Bool) (m n : ℕ) (a b : Diagram) → Ordered m n a → Ordered m n b → Reduced a → Reduced b
    → join_d z a b ≡ mk_d m (join_d z (fix_d m true a) (fix_d m true b)) (join_d z (fix_d m false a) (fix_d m false b))
join_rule z m n a b oa ob ra rb = go a b (top m n a oa) (top m n b ob) ra rb
  where
    Rule : Diagram → Diagram → Type 0
    Rule a b = join_d z a b ≡ mk_d m (join_d z (fix_d m true a) (fix_d m true b)) (join_d z (fix_d m false a) (fix_d m false b))

    left : (f s b : Diagram) → Ordered (suc m) n b → f ≢ s → Rule (node m f s) b
    left f s (leaf c) o h = rw (fix_at m true f s, fix_at m false f s, join_leaf z c f, join_leaf z c s, mk_cond m (beq c z) (leaf z) f s h)
    left f s (node x g k) o h = rw (fix_at m true f s, fix_at m false f s, fix_above m n true (node x g k) o, fix_above m n false (node x g k) o, lt-ltb m x o.0)

    right : (a g h : Diagram) → Ordered (suc m) n a → g ≢ h → Rule a (node m g h)
    right (leaf c) g h o k = rw (fix_at m true g h, fix_at m false g h, mk_cond m (beq c z) (leaf z) g h k)
    right (node e f s) g h o k = rw (fix_at m true g h, fix_at m false g h, fix_above m n true (node e f s) o, fix_above m n false (node e f s) o, le-ltb e m (omega (arith, o.0)), lt-ltb m e o.0)

    go : (a b : Diagram) → Top m n a → Top m n b → Reduced a → Reduced b → Rule a b
    go a b (at f s p x y) (at g h p' x' y') ra rb = rw (fix_at m true f s, fix_at m false f s, fix_at m true g h, fix_at m false g h, le-ltb m m (omega arith))
    go a b (at f s p x y) (above b' o) ra rb = left f s b' o ra.0
    go a b (above a' o) (at g h p x y) ra rb = right a' g h o rb.0
    go a b (above a' o) (above b' o') ra rb =
        rw (fix_above m n true a' o, fix_above m n false a' o, fix_above m n true b' o', fix_above m n false b' o')
        (sym (mk_same m (join_d z a' b') (join_d z a' b') refl))

join_cond : (z c x y x' y' : Bool) → join z (cond c x y) (cond c x' y') ≡ cond c (join z x x') (join z y y')
join_cond z true x y x' y' = refl
join_cond z false x y x' y' = refl

join_leaves : (z c d : Bool) → join_d z (leaf c) (leaf d) ≡ leaf (join z c d)
join_leaves z c d = sym (cond_map leaf (beq c z) z d)

-- the joined diagram: its events, its branches, its values
pub record Joined (z : Bool) (m n : ℕ) (a b : Diagram) : Type 0 where
  pub ordered : Ordered m n (join_d z a b)
  pub reduced : Reduced (join_d z a b)
  pub value : (v : Set) → eval (join_d z a b) v ≡ join z (eval a v) (eval b v)

pub joined_from : (z : Bool) (k m n : ℕ) → m + k ≡ n → (a b : Diagram) → Ordered m n a → Ordered m n b → Reduced a → Reduced b → Joined z m n a b
joined_from z zero m n q a b oa ob ra rb =
    let (c, p) = at_end m n a (omega arith) oa in
    let (d, r) = at_end m n b (omega arith) ob in
    rw (p, r) (record {
      ordered = rw (join_leaves z c d) tt;
      reduced = rw (join_leaves z c d) tt;
      value = λ v. rw (join_leaves z c d);
    })
joined_from z (suc k) m n q a b oa ob ra rb =
    let half : (c : Bool) → Joined z (suc m) n (fix_d m c a) (fix_d m c b) = λ c.
    joined_from z k (suc m) n (omega arith) (fix_d m c a) (fix_d m c b) (ordered_fix m n c a oa) (ordered_fix m n c b ob)
    (reduced_fix m c a ra) (reduced_fix m c b rb) in
    let x = join_d z (fix_d m true a) (fix_d m true b) in
    let y = join_d z (fix_d m false a) (fix_d m false b) in
    let rule : join_d z a b ≡ mk_d m x y = join_rule z m n a b oa ob ra rb in
    record {
      ordered = rw rule (ordered_mk n m x y (omega arith) (half true).ordered (half false).ordered);
      reduced = rw rule (reduced_mk m x y (half true).reduced (half false).reduced);
      value = λ v. rw (rule, eval_top m n a v oa, eval_top m n b v ob) (
          eval_mk m x y v ∙ ap₂ (cond (v m)) ((half true).value v) ((half false).value v)
          ∙ sym (join_cond z (v m) (eval (fix_d m true a) v) (eval (fix_d m false a) v) (eval (fix_d m true b) v) (eval (fix_d m false b) v)));
    }
