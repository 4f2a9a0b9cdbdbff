-- The events at the nodes of a reduced diagram are those that its function depends on.
-- Assumes nothing.
use mathlib.Core.Path.{◌≡◌, refl, sym, ap, ap₂, ◌∙◌, subst}
use mathlib.Core.Logic.{◌≢◌, ◌⊎◌, inl, inr, ◌↔◌, ite}
use mathlib.Core.Bool.{Bool, true, false, cond, not, ◌||◌, Bool-discrete, true≢false, false≢true}
use mathlib.Core.List.{List, [], ◌∷◌, map}
use Prim.Native.Nat.{ℕ, zero, suc, ◌+◌, ◌≤◌}
use native.Mathlib.Omega.{arith}
use lib.Dec.{eqb}
use lib.ListN.{length}
use borrow.Author.Tests.{eqb-true, eqb-false}
use Rattle.paper.specs.Lists.{keep, up_to}
use Rattle.paper.specs.Sets.{Set, put, all_sets}
use Rattle.paper.specs.Functions.{Fun, fix_f, table, table_discrete, agree, Depends, depends, depends_on}
use Rattle.paper.specs.Diagrams.{Diagram, leaf, node, eval, Ordered, Reduced}
use Rattle.paper.specs.Chance.{stands, standing}
use Rattle.algebra.proofs.Base.{widen, put_same, put_other}
use Rattle.algebra.proofs.Lists.{bool_iff, map_agree, keep_same}
use Rattle.algebra.proofs.Trim.{trim, trim_all, trim_at}
use Rattle.algebra.proofs.Fix.{eval_agree}
use Rattle.algebra.proofs.Sets.{set_ext, failed_branch, sound_branch}
use Rattle.algebra.proofs.Plain.{plain}
use Rattle.algebra.proofs.Kind.{table_inj}

pub put_swap : (i e : ℕ) (b c : Bool) (v : Set) → i ≢ e → put i b (put e c v) ≡ put e c (put i b v)
put_swap i e b c v n = set_ext e (put i b (put e c v)) (put e c (put i b v))
    (put_other i b (put e c v) e (λ q. n (sym q)) ∙ put_same e c v ∙ sym (put_same e c (put i b v)))
    (λ j m. ap (cond (eqb j i) b) (put_other e c v j m) ∙ sym (put_other e c (put i b v) j m))

-- where two tables differ, there is a set where the functions do
pub differ : {A : Type 0} (F G : A → Bool) (xs : List A) → map F xs ≢ map G xs → (x : A) × (F x ≢ G x)
differ F G [] h = absurd (h refl)
differ F G (x ∷ xs) h = go (Bool-discrete (F x) (G x)) (differ F G xs)
  where
    go : Dec (F x ≡ G x) → ((map F xs ≢ map G xs) → (y : _) × (F y ≢ G y)) → (y : _) × (F y ≢ G y)
    go (yes e) r = r (λ q. h (ap₂ ◌∷◌ e q))
    go (no n) r = (x, n)

or_cases : (a b c : Bool) → (a || (b || c)) ≡ true → (a ≡ true) ⊎ ((b ≡ true) ⊎ (c ≡ true))
or_cases true b c h = inl refl
or_cases false true c h = inr (inl refl)
or_cases false false c h = inr (inr h)

stands_from : (m n : ℕ) (d : Diagram) (i : ℕ) → Ordered m n d → stands i d ≡ true → m ≤ i
stands_from m n (leaf b) i o h = absurd (false≢true h)
stands_from m n (node e f s) i o h = go (or_cases (eqb i e) (stands i f) (stands i s) h) (stands_from (suc e) n f i o.2) (stands_from (suc e) n s i o.3)
  where
    go : (eqb i e ≡ true) ⊎ ((stands i f ≡ true) ⊎ (stands i s ≡ true)) → (stands i f ≡ true → suc e ≤ i) → (stands i s ≡ true → suc e ≤ i) → m ≤ i
    go (inl q) a b = omega (arith, o.0, eqb-true i e q)
    go (inr (inl q)) a b = omega (arith, o.0, a q)
    go (inr (inr q)) a b = omega (arith, o.0, b q)

-- an event that does not stand in a diagram does not matter to it
pub stands_not : (d : Diagram) (i : ℕ) (b : Bool) (v : Set) → stands i d ≡ false → eval d (put i b v) ≡ eval d v
stands_not (leaf c) i b v h = refl
stands_not (node e f s) i b v h = go (eqb i e) refl (stands i f) refl (stands i s) refl (stands_not f i b v) (stands_not s i b v)
  where
    go : (a : Bool) → eqb i e ≡ a → (x : Bool) → stands i f ≡ x → (y : Bool) → stands i s ≡ y
        → (stands i f ≡ false → eval f (put i b v) ≡ eval f v) → (stands i s ≡ false → eval s (put i b v) ≡ eval s v) → eval (node e f s) (put i b v) ≡ eval (node e f s) v
    go true p x q y r k l = absurd (true≢false (rw p at h))
    go false p true q y r k l = absurd (true≢false (rw (p, q) at h))
    go false p false q true r k l = absurd (true≢false (rw (p, q, r) at h))
    go false p false q false r k l = rw (put_other i b v e (λ w. eqb-false i e p (sym w)), k q, l r)

depends_node : (n m : ℕ) (d : Diagram) (i : ℕ) → Ordered m n d → Reduced d → stands i d ≡ true → Depends (eval d) i
depends_node n m (leaf b) i o r h = absurd (false≢true h)
depends_node n m (node e f s) i o r h =
    go (or_cases (eqb i e) (stands i f) (stands i s) h) (depends_node n (suc e) f i o.2 r.1) (depends_node n (suc e) s i o.3 r.2)
  where
    d : Diagram
    d = node e f s

    apart : (x : Diagram) → Ordered (suc e) n x → stands i x ≡ true → i ≢ e
    apart x p q w = omega (arith, stands_from (suc e) n x i p q, w)

    go : (eqb i e ≡ true) ⊎ ((stands i f ≡ true) ⊎ (stands i s ≡ true)) → (stands i f ≡ true → Depends (eval f) i) → (stands i s ≡ true → Depends (eval s) i) → Depends (eval d) i
    go (inl q) a b =
        let (v, w) = differ (eval f) (eval s) (all_sets n 0) (λ k. r.0 (table_inj n (plain n) f s
        (widen (suc e) 0 n f (omega arith) o.2, r.1) (widen (suc e) 0 n s (omega arith) o.3, r.2) k)) in
        subst (Depends (eval d)) (sym (eqb-true i e q)) (v, λ k. w (sym (failed_branch n e f s o.2 o.3 v) ∙ k ∙ sound_branch n e f s o.2 o.3 v))
    go (inr (inl q)) a b =
        let (v, w) = a q in
        let move : (c : Bool) → eval d (put i c (put e true v)) ≡ eval f (put i c v) = λ c.
        ap (eval d) (put_swap i e c true v (apart f o.2 q)) ∙ failed_branch n e f s o.2 o.3 (put i c v) in
        (put e true v, λ k. w (sym (move true) ∙ k ∙ move false))
    go (inr (inr q)) a b =
        let (v, w) = b q in
        let move : (c : Bool) → eval d (put i c (put e false v)) ≡ eval s (put i c v) = λ c.
        ap (eval d) (put_swap i e c false v (apart s o.3 q)) ∙ sound_branch n e f s o.2 o.3 (put i c v) in
        (put e false v, λ k. w (sym (move true) ∙ k ∙ move false))

-- DEPENDS: the events at the nodes
pub depends_law : (n : ℕ) (d : Diagram) (i : ℕ) → Ordered 0 n d → Reduced d → (stands i d ≡ true) ↔ Depends (eval d) i
depends_law n d i o r = (depends_node n 0 d i o r, λ w. go (stands i d) refl w)
  where
    go : (b : Bool) → stands i d ≡ b → Depends (eval d) i → stands i d ≡ true
    go true q w = q
    go false q (v, w) = absurd (w (stands_not d i true v q ∙ sym (stands_not d i false v q)))

-- ---- how many

pub not_agree : (n : ℕ) (F G : Fun) → (agree n F G ≡ false) ↔ (table n F ≢ table n G)
not_agree n F G = go (table_discrete (table n F) (table n G))
  where
    go : (d : Dec (table n F ≡ table n G)) → (ite d true false ≡ false) ↔ (table n F ≢ table n G)
    go (yes e) = ((λ q. absurd (true≢false q)), λ w. absurd (w e))
    go (no w) = ((λ q. w), λ w. refl)

-- the test says whether an event stands in the diagram
pub depends_test : (n : ℕ) (d : Diagram) (i : ℕ) → Ordered 0 n d → Reduced d → depends n (eval d) i ≡ stands i d
depends_test n d i o r = bool_iff (depends n (eval d) i) (stands i d) to from
  where
    F : Bool → Fun
    F b = fix_f i b (eval d)

    local : (b : Bool) (v : Set) → eval d (put i b (trim n 0 v)) ≡ eval d (put i b v)
    local b v = eval_agree 0 n d (put i b (trim n 0 v)) (put i b v) o (λ j l h. ap (cond (eqb j i) b) (trim_at n 0 v j l (omega arith)))

    turn : (b : Bool) → not b ≡ true → b ≡ false
    turn true q = absurd (false≢true q)
    turn false q = refl

    to : depends n (eval d) i ≡ true → stands i d ≡ true
    to q = (depends_law n d i o r).1 (differ (F true) (F false) (all_sets n 0) ((not_agree n (F true) (F false)).0 (turn (agree n (F true) (F false)) q)))

    from : stands i d ≡ true → depends n (eval d) i ≡ true
    from q =
        let (v, w) = (depends_law n d i o r).0 q in
        ap not ((not_agree n (F true) (F false)).1 (λ e. w (sym (local true v) ∙ map_agree (F true) (F false) (trim n 0 v) (all_sets n 0) e (trim_all n 0 v) ∙ local false v)))

standing_kept : (k m : ℕ) (d : Diagram) → standing k m d ≡ length (keep (λ i. stands i d) (up_to k m))
standing_kept zero m d = refl
standing_kept (suc k) m d = go (stands m d) (standing_kept k (suc m) d)
  where
    go : (b : Bool) → standing k (suc m) d ≡ length (keep (λ i. stands i d) (up_to k (suc m)))
        → cond b 1 0 + standing k (suc m) d ≡ length (cond b (m ∷ keep (λ i. stands i d) (up_to k (suc m))) (keep (λ i. stands i d) (up_to k (suc m))))
    go true e = omega (arith, e)
    go false e = omega (arith, e)

-- L OF A BUILT TREE: as many events stand in a reduced diagram as its function depends on
pub standing_depends : (n : ℕ) (d : Diagram) → Ordered 0 n d → Reduced d → standing n 0 d ≡ depends_on n (eval d)
unfolding depends_on
standing_depends n d o r = standing_kept n 0 d ∙ ap length (keep_same (λ i. stands i d) (depends n (eval d)) (up_to n 0) (λ i h. sym (depends_test n d i o r)))
