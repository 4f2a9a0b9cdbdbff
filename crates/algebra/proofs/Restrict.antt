-- The numbers of the function with one event fixed are those of the same diagram with that event's chance set to D or to 0.
-- Assumes nothing.
use mathlib.Core.Path.{◌≡◌, refl, sym, ap, ap₂, ◌∙◌, fun_ext}
use mathlib.Core.Logic.{◌⊎◌, inl, inr}
use mathlib.Core.Bool.{Bool, true, false, cond}
use mathlib.Core.List.{List}
use Prim.Native.Nat.{ℕ, zero, suc, ◌+◌, ◌*◌, ◌-◌, ◌/◌, ◌≤◌, ◌<◌}
use native.Mathlib.Nat.{div-eq_of_lt-le, add-sub_of_le, mul_comm, suc-mul, sub_self, zero-mul}
use native.Mathlib.Omega.{arith}
use lib.Dec.{eqb}
use lib.ListN.{length, get_or, set}
use lib.Seq.{get_or-set_same, get_or-set_other}
use borrow.Author.Tests.{ne_eqb, eqb-false}
use Rattle.paper.specs.Lists.{keep, sum}
use Rattle.paper.specs.Sets.{Set, put, all_sets}
use Rattle.paper.specs.Functions.{Fun, fix_f}
use Rattle.paper.specs.Diagrams.{Diagram, leaf, node, eval, Ordered, diagram_of}
use Rattle.paper.specs.Chance.{weight, total, bound, low, high}
use Rattle.algebra.proofs.Base.{eqb_or, eqb_same, cond_map, cond_all, widen, ordered_mk, eval_mk}
use Rattle.algebra.proofs.Lists.{map_same}
use Rattle.algebra.proofs.Trim.{trim, trim_at}
use Rattle.algebra.proofs.Fix.{eval_put, eval_agree}
use Rattle.algebra.proofs.Sets.{put_put}
use Rattle.algebra.proofs.Depends.{put_swap}
use Rattle.algebra.proofs.Bracket.{total_step}
use Rattle.algebra.proofs.SameChance.{same_low, same_high}
use Rattle.paper.specs.Importance.{certain}

-- ---- the diagram of a function

pub diagram_ordered : (k m n : ℕ) → m + k ≡ n → (F : Fun) → Ordered m n (diagram_of k m F)
diagram_ordered zero m n q F = tt
diagram_ordered (suc k) m n q F = ordered_mk n m (diagram_of k (suc m) (fix_f m true F)) (diagram_of k (suc m) (fix_f m false F)) (omega arith)
    (diagram_ordered k (suc m) n (omega arith) (fix_f m true F)) (diagram_ordered k (suc m) n (omega arith) (fix_f m false F))

pub diagram_eval : (k m : ℕ) (F : Fun) (v : Set) → eval (diagram_of k m F) v ≡ F (trim k m v)
diagram_eval zero m F v = refl
diagram_eval (suc k) m F v =
    eval_mk m (diagram_of k (suc m) (fix_f m true F)) (diagram_of k (suc m) (fix_f m false F)) v
    ∙ ap₂ (cond (v m)) (diagram_eval k (suc m) (fix_f m true F) v) (diagram_eval k (suc m) (fix_f m false F) v)
    ∙ pick (v m)
  where
    pick : (b : Bool) → cond b (F (put m true (trim k (suc m) v))) (F (put m false (trim k (suc m) v))) ≡ F (put m b (trim k (suc m) v))
    pick true = refl
    pick false = refl

-- ---- an event fixed wherever it stands

abbrev pub restrict_d : ℕ → Bool → Diagram → Diagram
restrict_d i b (leaf c) = leaf c
restrict_d i b (node e f s) = cond (eqb e i) (cond b f s) (node e (restrict_d i b f) (restrict_d i b s))

pub restrict_ordered : (m n i : ℕ) (b : Bool) (d : Diagram) → Ordered m n d → Ordered m n (restrict_d i b d)
restrict_ordered m n i b (leaf c) o = tt
restrict_ordered m n i b (node e f s) o = cond_all (Ordered m n) (eqb e i) (cond b f s) (node e (restrict_d i b f) (restrict_d i b s))
    (cond_all (Ordered m n) b f s (widen (suc e) m n f (omega (arith, o.0)) o.2) (widen (suc e) m n s (omega (arith, o.0)) o.3))
    (o.0, o.1, restrict_ordered (suc e) n i b f o.2, restrict_ordered (suc e) n i b s o.3)

pub restrict_eval : (m n i : ℕ) (b : Bool) (d : Diagram) (v : Set) → Ordered m n d → eval (restrict_d i b d) v ≡ eval d (put i b v)
restrict_eval m n i b (leaf c) v o = refl
restrict_eval m n i b (node e f s) v o = go (eqb_or e i) (restrict_eval (suc e) n i b f v o.2) (restrict_eval (suc e) n i b s v o.3)
  where
    go : (e ≡ i) ⊎ (eqb e i ≡ false) → eval (restrict_d i b f) v ≡ eval f (put i b v) → eval (restrict_d i b s) v ≡ eval s (put i b v)
        → eval (restrict_d i b (node e f s)) v ≡ eval (node e f s) (put i b v)
    go (inl q) x y = rw (← q, eqb_same e, eval_put e n f b v o.2, eval_put e n s b v o.3) (cond_map (λ d. eval d v) b f s)
    go (inr q) x y = rw (q, x, y)

module _ (D c : ℕ) (a : ℕ → ℕ) (small : c < D) where
  -- a mixture by a certain event is one of its parts
  mix_certain : (b : Bool) (x y : ℕ) → (cond b D 0 * x + (D - cond b D 0) * y + c) / D ≡ cond b x y
  mix_certain true x y = rw (sub_self D, zero-mul y) (div-eq_of_lt-le D (omega (arith, mul_comm x D)) (omega (arith, mul_comm x D, suc-mul x D)))
  mix_certain false x y = let z : D - 0 ≡ D = omega arith in rw (zero-mul x, z) (div-eq_of_lt-le D (omega (arith, mul_comm y D)) (omega (arith, mul_comm y D, suc-mul y D)))

  -- a chance below the diagram's events does not matter
  pub bound_below : (m n i : ℕ) (b : Bool) (d : Diagram) → i < m → Ordered m n d → bound D (certain D a i b) c d ≡ bound D a c d
  bound_below m n i b (leaf t) l o = refl
  bound_below m n i b (node e f s) l o = rw (
    ne_eqb e i (λ q. omega (arith, o.0, q)),
    bound_below (suc e) n i b f (omega (arith, o.0)) o.2,
    bound_below (suc e) n i b s (omega (arith, o.0)) o.3,
  )

  pub bound_restrict : (m n i : ℕ) (b : Bool) (d : Diagram) → Ordered m n d → bound D (certain D a i b) c d ≡ bound D a c (restrict_d i b d)
  bound_restrict m n i b (leaf t) o = refl
  bound_restrict m n i b (node e f s) o = go (eqb_or e i) (bound_restrict (suc e) n i b f o.2) (bound_restrict (suc e) n i b s o.3)
    where
      a' : ℕ → ℕ
      a' = certain D a i b

      go : (e ≡ i) ⊎ (eqb e i ≡ false) → bound D a' c f ≡ bound D a c (restrict_d i b f) → bound D a' c s ≡ bound D a c (restrict_d i b s)
          → bound D a' c (node e f s) ≡ bound D a c (restrict_d i b (node e f s))
      go (inl q) x y = rw (q, eqb_same i, mix_certain b, bound_below (suc e) n i b f (omega arith) o.2, bound_below (suc e) n i b s (omega arith) o.3)
          (sym (cond_map (bound D a c) b f s))
      go (inr q) x y = rw (q, x, y)

-- THE RESTRICTED FUNCTION'S NUMBERS: g is any ordered diagram of the function that fixing event i leaves of d's
module _ (D n : ℕ) (a : ℕ → ℕ) (D0 : 0 < D) (chances : (i : ℕ) → i < n → a i ≤ D) (d g : Diagram) (od : Ordered 0 n d) (og : Ordered 0 n g)
    (i : ℕ) (b : Bool) (e : eval g ≡ fix_f i b (eval d)) where
  same : eval (restrict_d i b d) ≡ eval g
  same = fun_ext (λ v. restrict_eval 0 n i b d v od) ∙ sym e

  pub restricted_low : low D a g ≡ low D (certain D a i b) d
  restricted_low = sym (bound_restrict D 0 a D0 0 n i b d od ∙ same_low D n a D0 chances (restrict_d i b d) g (restrict_ordered 0 n i b d od) og same)

  pub restricted_high : high D a g ≡ high D (certain D a i b) d
  restricted_high = sym (bound_restrict D (D - 1) a (omega arith) 0 n i b d od ∙ same_high D n a D0 chances (restrict_d i b d) g (restrict_ordered 0 n i b d od) og same)

-- the function's own diagram is one
pub fixed_diagram : (n : ℕ) (d : Diagram) (i : ℕ) (b : Bool) → Ordered 0 n d → eval (diagram_of n 0 (fix_f i b (eval d))) ≡ fix_f i b (eval d)
fixed_diagram n d i b o = fun_ext (λ v. diagram_eval n 0 (fix_f i b (eval d)) v
    ∙ eval_agree 0 n d (put i b (trim n 0 v)) (put i b v) o (λ j l h. ap (cond (eqb j i) b) (trim_at n 0 v j l (omega arith))))

-- ---- the exact sums

module _ (D : ℕ) where
  weight_same : (a c : ℕ → ℕ) (k m : ℕ) (S : Set) → ((j : ℕ) → m ≤ j → a j ≡ c j) → weight D a k m S ≡ weight D c k m S
  weight_same a c zero m S h = refl
  weight_same a c (suc k) m S h = ap₂ (λ x y. cond (S m) x (D - x) * y) (h m (omega arith)) (weight_same a c k (suc m) S (λ j l. h j (omega arith)))

  total_same : (a c : ℕ → ℕ) (k m : ℕ) (F : Fun) → ((j : ℕ) → m ≤ j → a j ≡ c j) → total D a k m F ≡ total D c k m F
  unfolding total
  total_same a c k m F h = ap sum (map_same (weight D a k m) (weight D c k m) (keep F (all_sets k m)) (λ S i. weight_same a c k m S h))

  module _ (a : ℕ → ℕ) (i : ℕ) (b : Bool) where
    abbrev a' : ℕ → ℕ
    a' = certain D a i b

    first : (k : ℕ) (F : Fun) → a i ≤ D → total D a' (suc k) i F ≡ total D a (suc k) i (fix_f i b F)
    first k F h =
        total_step D a' k i F
        ∙ ap (λ z. z * total D a' k (suc i) (fix_f i true F) + (D - z) * total D a' k (suc i) (fix_f i false F)) here
        ∙ ap₂ (λ x y. cond b D 0 * x + (D - cond b D 0) * y) (later true) (later false) ∙ whole b
        ∙ sym (total_step D a k i (fix_f i b F) ∙ ap₂ (λ G H. a i * total D a k (suc i) G + (D - a i) * total D a k (suc i) H) (twice true) (twice false)
        ∙ omega (arith, ap (λ z. z * t b) (add-sub_of_le h)))
      where
        t : Bool → ℕ
        t c = total D a k (suc i) (fix_f i c F)

        here : a' i ≡ cond b D 0
        here = rw (eqb_same i)

        later : (c : Bool) → total D a' k (suc i) (fix_f i c F) ≡ t c
        later c = total_same a' a k (suc i) (fix_f i c F) (λ j l. rw (ne_eqb j i (λ q. omega arith)))

        twice : (c : Bool) → fix_f i c (fix_f i b F) ≡ fix_f i b F
        twice c = fun_ext (λ v. ap F (put_put i b c v))

        whole : (b : Bool) → cond b D 0 * t true + (D - cond b D 0) * t false ≡ D * t b
        whole true = omega (arith, ap (λ z. z * t false) (sub_self D))
        whole false = let z : D - 0 ≡ D = omega arith in rw z (omega arith)

    -- THE EXACT SUM with event i failed, or sound: its chance set to D, or to 0; the event itself sums out
    pub total_certain : (k m : ℕ) (F : Fun) → m ≤ i → i < m + k → a i ≤ D → total D a' k m F ≡ total D a k m (fix_f i b F)
    total_certain zero m F l h ai = absurd (omega arith)
    total_certain (suc k) m F l h ai = go (eqb_or m i) (λ c. total_certain k (suc m) (fix_f m c F))
      where
        go : (m ≡ i) ⊎ (eqb m i ≡ false)
            → ((c : Bool) → suc m ≤ i → i < suc m + k → a i ≤ D → total D (certain D a i b) k (suc m) (fix_f m c F) ≡ total D a k (suc m) (fix_f i b (fix_f m c F)))
            → total D (certain D a i b) (suc k) m F ≡ total D a (suc k) m (fix_f i b F)
        go (inl q) r = rw q (first k F ai)
        go (inr q) r =
            let there : a' m ≡ a m = ap (λ t. cond t (cond b D 0) (a m)) q in
            let swap : (c : Bool) → fix_f i b (fix_f m c F) ≡ fix_f m c (fix_f i b F) = λ c. fun_ext (λ v. ap F (sym (put_swap i m b c v (λ w. eqb-false m i q (sym w))))) in
            let half : (c : Bool) → total D (certain D a i b) k (suc m) (fix_f m c F) ≡ total D a k (suc m) (fix_f m c (fix_f i b F)) = λ c.
            r c (omega (arith, eqb-false m i q)) (omega arith) ai ∙ ap (total D a k (suc m)) (swap c) in
            total_step D (certain D a i b) k m F
            ∙ ap (λ z. z * total D a' k (suc m) (fix_f m true F) + (D - z) * total D a' k (suc m) (fix_f m false F)) there
            ∙ ap₂ (λ x y. a m * x + (D - a m) * y) (half true) (half false) ∙ sym (total_step D a k m (fix_f i b F))

-- in a list of chances: one number set
pub certain_set : (D : ℕ) (A : List ℕ) (i : ℕ) (b : Bool) → i < length A → certain D (λ j. get_or A j 0) i b ≡ (λ j. get_or (set A i (cond b D 0)) j 0)
certain_set D A i b l = fun_ext (λ j. go j (eqb_or j i))
  where
    go : (j : ℕ) → (j ≡ i) ⊎ (eqb j i ≡ false) → certain D (λ k. get_or A k 0) i b j ≡ get_or (set A i (cond b D 0)) j 0
    go j (inl q) = rw (q, eqb_same i) (sym (get_or-set_same A i (cond b D 0) 0 l))
    go j (inr q) = rw q (sym (get_or-set_other A i j (cond b D 0) 0 (eqb-false j i q)))
