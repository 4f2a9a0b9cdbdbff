-- The sets of a zero-suppressed diagram, and of one without another.
-- Assumes nothing.
use mathlib.Core.Path.{◌≡◌, refl, sym, ap, ap₂, ◌∙◌}
use mathlib.Core.Logic.{◌≢◌, ◌⊎◌, inl, inr, ite}
use mathlib.Core.Bool.{Bool, true, false, cond, not, true≢false, false≢true}
use mathlib.Core.List.{List, ◌++◌, map}
use Prim.Native.Nat.{ℕ, suc, ◌≤◌, ◌<◌}
use native.Mathlib.Omega.{arith}
use lib.Dec.{ltb}
use Rattle.paper.specs.Lists.{In, keep}
use Rattle.paper.specs.Sets.{Set, none, put}
use Rattle.paper.specs.Functions.{Monotone}
use Rattle.paper.specs.Diagrams.{Diagram, leaf, node, eval, Ordered, Reduced, Diagram-discrete}
use Rattle.paper.specs.Cuts.{sets_of, Suppressed}
use Rattle.algebra.specs.Operations.{is_node, subs}
use Rattle.algebra.specs.Families.{mk_z, is_one, without_d, cuts_d}
use Rattle.algebra.proofs.Base.{widen, put_other, Three, below, beyond, equal, three}
use Rattle.algebra.proofs.Lists.{in_append, map_in, keep_map, keep_same, keep_all, keep_none, keep_append}
use Rattle.algebra.proofs.Fix.{eval_put}
use Rattle.algebra.proofs.Subs.{part_inherits}
use Rattle.algebra.proofs.Plain.{canonical}
use Rattle.algebra.proofs.Sets.{not_true, mono_failed, mono_sound, failed_branch}

pub mkz_cases : (P : Diagram → Type 0) (e : ℕ) (f s : Diagram) → (f ≡ leaf false → P s) → (f ≢ leaf false → P (node e f s)) → P (mk_z e f s)
mkz_cases P e f s a b = go (Diagram-discrete f (leaf false))
  where
    go : (d : Dec (f ≡ leaf false)) → P (ite d s (node e f s))
    go (yes h) = a h
    go (no h) = b h

pub mkz_none : (e : ℕ) (f s : Diagram) → f ≡ leaf false → mk_z e f s ≡ s
mkz_none e f s q = mkz_cases (λ d. d ≡ s) e f s (λ _. refl) (λ n. absurd (n q))

pub mkz_node : (e : ℕ) (f s : Diagram) → f ≢ leaf false → mk_z e f s ≡ node e f s
mkz_node e f s n = mkz_cases (λ d. d ≡ node e f s) e f s (λ q. absurd (n q)) (λ _. refl)

pub sets_mkz : (e : ℕ) (f s : Diagram) → sets_of (mk_z e f s) ≡ map (put e true) (sets_of f) ++ sets_of s
sets_mkz e f s = mkz_cases (λ d. sets_of d ≡ map (put e true) (sets_of f) ++ sets_of s) e f s
    (λ h. rw h)
    (λ h. refl)

pub ordered_mkz : (n e : ℕ) (f s : Diagram) → e < n → Ordered (suc e) n f → Ordered (suc e) n s → Ordered e n (mk_z e f s)
ordered_mkz n e f s h a b = mkz_cases (Ordered e n) e f s (λ q. widen (suc e) e n s (omega arith) b) (λ q. (omega arith, h, a, b))

pub suppressed_mkz : (e : ℕ) (f s : Diagram) → Suppressed f → Suppressed s → Suppressed (mk_z e f s)
suppressed_mkz e f s a b = mkz_cases Suppressed e f s (λ q. b) (λ q. (q, a, b))

-- a set holds no event below its diagram's
pub sets_above : (m n : ℕ) (z : Diagram) (S : Set) → Ordered m n z → In S (sets_of z) → (i : ℕ) → i < m → S i ≡ false
sets_above m n (leaf true) S o (inl e) i l = ap (λ v. v i) e
sets_above m n (leaf true) S o (inr h) i l = absurd h
sets_above m n (leaf false) S o h i l = absurd h
sets_above m n (node e f s) S o h i l = go (in_append S (map (put e true) (sets_of f)) (sets_of s) h)
    (λ T k. sets_above (suc e) n f T o.2 k i (omega (arith, o.0))) (λ k. sets_above (suc e) n s S o.3 k i (omega (arith, o.0)))
  where
    go : In S (map (put e true) (sets_of f)) ⊎ In S (sets_of s) → ((T : Set) → In T (sets_of f) → T i ≡ false) → (In S (sets_of s) → S i ≡ false) → S i ≡ false
    go (inl k) r t = let (T, j, q) = map_in (put e true) S (sets_of f) k in
        ap (λ v. v i) q ∙ put_other e true T i (λ w. omega (arith, o.0, w)) ∙ r T j
    go (inr k) r t = t k

-- a monotone node is sound when nothing failed
pub mono_none : (m n e : ℕ) (f s : Diagram) → Ordered m n (node e f s) → Reduced (node e f s) → Monotone (eval (node e f s)) → eval (node e f s) none ≡ false
mono_none m n e f s o r h = not_true (eval (node e f s) none) (λ t. true≢false (ap is_node
    (canonical n (node e f s) (leaf true) (widen m 0 n (node e f s) (omega arith) o) tt r tt (λ v. h none v (λ i q. absurd (false≢true q)) t))))

-- the sets that do not make g fail
spared : Diagram → List Set → List Set
spared g = keep (λ S. not (eval g S))

abbrev Law : Diagram → Diagram → Type 0
Law z g = sets_of (without_d z g) ≡ spared g (sets_of z)

-- what is asked of g
pub record Fit (n k : ℕ) (g : Diagram) : Type 0 where
  pub ordered : Ordered k n g
  pub reduced : Reduced g
  pub mono : Monotone (eval g)

pub fit_failed : (n k e : ℕ) (f s : Diagram) → Fit n k (node e f s) → Fit n (suc e) f
fit_failed n k e f s h = record { ordered = h.ordered.2; reduced = h.reduced.1; mono = mono_failed n e f s h.ordered.2 h.ordered.3 h.mono }

pub fit_sound : (n k e : ℕ) (f s : Diagram) → Fit n k (node e f s) → Fit n (suc e) s
fit_sound n k e f s h = record { ordered = h.ordered.3; reduced = h.reduced.2; mono = mono_sound n e f s h.ordered.2 h.ordered.3 h.mono }

pub fit_at : (n k j : ℕ) (g : Diagram) → Fit n k g → Ordered j n g → Fit n j g
fit_at n k j g h o = record { ordered = o; reduced = h.reduced; mono = h.mono }

-- the sets of a made node that g spares, where p and q are what g says of the sets with and without event e
spared_node : (n e : ℕ) (f s g p q : Diagram) → ((T : Set) → In T (sets_of f) → eval g (put e true T) ≡ eval p T) → ((T : Set) → In T (sets_of s) → eval g T ≡ eval q T)
    → spared g (sets_of (node e f s)) ≡ map (put e true) (spared p (sets_of f)) ++ spared q (sets_of s)
unfolding spared
spared_node n e f s g p q hp hq =
    keep_append (λ S. not (eval g S)) (map (put e true) (sets_of f)) (sets_of s)
    ∙ ap₂ ◌++◌
    (keep_map (put e true) (λ S. not (eval g S)) (sets_of f)
    ∙ ap (map (put e true)) (keep_same (λ T. not (eval g (put e true T))) (λ T. not (eval p T)) (sets_of f) (λ T h. ap not (hp T h))))
    (keep_same (λ T. not (eval g T)) (λ T. not (eval q T)) (sets_of s) (λ T h. ap not (hq T h)))

module _ (n e : ℕ) (f s : Diagram) (o : Ordered e n (node e f s))
    (rf : (k : ℕ) (g : Diagram) → Fit n k g → Law f g) (rs : (k : ℕ) (g : Diagram) → Fit n k g → Law s g) where
  without_node : (k : ℕ) (g : Diagram) → Fit n k g → Law (node e f s) g
  unfolding spared
  without_node k (leaf true) h = sym (keep_none (λ S. not true) (sets_of (node e f s)) (λ S q. refl))
  without_node k (leaf false) h = sym (keep_all (λ S. not false) (sets_of (node e f s)) (λ S q. refl))
  without_node k (node x p q) h = go (three e x) (without_node (suc x) q (fit_sound n k x p q h))
    where
      g : Diagram
      g = node x p q

      sound : (T : Set) → T x ≡ false → eval g T ≡ eval q T
      sound T w = ap (λ b. cond b (eval p T) (eval q T)) w

      go : Three e x → Law (node e f s) q → Law (node e f s) g
      go (below l t) r = rw t (sets_mkz e (without_d f g) (without_d s g) ∙ ap₂ (λ a b. map (put e true) a ++ b) (rf k g h) (rs k g h)
          ∙ sym (spared_node n e f s g g g (λ T j. eval_put e n g true T (l, h.ordered.1, h.ordered.2, h.ordered.3)) (λ T j. refl)))
      go (beyond l t u) r = rw (t, u) (r ∙ keep_same (λ T. not (eval q T)) (λ T. not (eval g T)) (sets_of (node e f s))
          (λ T j. ap not (sym (sound T (sets_above e n (node e f s) T o j x l)))))
      go (equal l t u) r = rw (t, u) (sets_mkz e (without_d f p) (without_d s q)
          ∙ ap₂ (λ a b. map (put e true) a ++ b) (rf (suc x) p (fit_failed n k x p q h)) (rs (suc x) q (fit_sound n k x p q h))
          ∙ sym (spared_node n e f s g p q
          (λ T j. rw l (failed_branch n x p q h.ordered.2 h.ordered.3 T))
          (λ T j. sound T (sets_above (suc e) n s T o.3 j x (omega arith)))))

-- THE SETS OF F WITHOUT G: those of F that do not make G fail, in order
pub without_sets : (n m : ℕ) (z : Diagram) → Ordered m n z → (k : ℕ) (g : Diagram) → Fit n k g → sets_of (without_d z g) ≡ keep (λ S. not (eval g S)) (sets_of z)
unfolding spared
without_sets n m (leaf b) o k (leaf c) h = go b c
  where
    go : (b c : Bool) → sets_of (without_d (leaf b) (leaf c)) ≡ keep (λ S. not c) (sets_of (leaf b))
    go true true = refl
    go true false = refl
    go false true = refl
    go false false = refl
without_sets n m (leaf true) o k (node x p q) h = rw (mono_none k n x p q h.ordered h.reduced h.mono)
without_sets n m (leaf false) o k (node x p q) h = refl
without_sets n m (node e f s) o k g h =
    without_node n e f s (omega arith, o.1, o.2, o.3) (without_sets n (suc e) f o.2) (without_sets n (suc e) s o.3) k g h

-- an ordered zero-suppressed diagram
abbrev pub Tidy : ℕ → ℕ → Diagram → Type 0
Tidy m n z = Ordered m n z × Suppressed z

pub part_tidy : (n : ℕ) (D x : Diagram) → Tidy 0 n D → In x (subs D) → Tidy 0 n x
part_tidy n =
    part_inherits (Tidy 0 n) (λ e f s t. ((widen (suc e) 0 n f (omega arith) t.0.2, t.1.1), (widen (suc e) 0 n s (omega arith) t.0.3, t.1.2)))

tidy_at : (m n e : ℕ) (z : Diagram) → m ≤ e → Tidy e n z → Tidy m n z
tidy_at m n e z h (o, p) = (widen e m n z h o, p)

tidy_mkz : (n e : ℕ) (f s : Diagram) → e < n → Tidy (suc e) n f → Tidy (suc e) n s → Tidy e n (mk_z e f s)
tidy_mkz n e f s h (a, p) (b, q) = (ordered_mkz n e f s h a b, suppressed_mkz e f s p q)

pub tidy_without : (n m : ℕ) (z : Diagram) → Tidy m n z → (g : Diagram) → Tidy m n (without_d z g)
tidy_without n m (leaf b) h g = go (is_one g)
  where
    go : (t : Bool) → Tidy m n (cond t (leaf false) (leaf b))
    go true = (tt, tt)
    go false = (tt, tt)
tidy_without n m (node e f s) (o, p) g =
    tidy_at m n e (without_d (node e f s) g) o.0 (go (tidy_without n (suc e) f (o.2, p.1)) (tidy_without n (suc e) s (o.3, p.2)) g)
  where
    z : Diagram
    z = node e f s

    go : ((g : Diagram) → Tidy (suc e) n (without_d f g)) → ((g : Diagram) → Tidy (suc e) n (without_d s g)) → (g : Diagram) → Tidy e n (without_d z g)
    go rf rs (leaf true) = (tt, tt)
    go rf rs (leaf false) = ((omega arith, o.1, o.2, o.3), p)
    go rf rs (node x g h) = pick (ltb e x) (ltb x e) (go rf rs h)
      where
        pick : (t u : Bool) → Tidy e n (without_d z h)
            → Tidy e n (cond t (mk_z e (without_d f (node x g h)) (without_d s (node x g h))) (cond u (without_d z h) (mk_z e (without_d f g) (without_d s h))))
        pick true u r = tidy_mkz n e (without_d f (node x g h)) (without_d s (node x g h)) o.1 (rf (node x g h)) (rs (node x g h))
        pick false true r = r
        pick false false r = tidy_mkz n e (without_d f g) (without_d s h) o.1 (rf g) (rs h)

pub tidy_cuts : (n m : ℕ) (d : Diagram) → Ordered m n d → Tidy m n (cuts_d d)
tidy_cuts n m (leaf b) o = (tt, tt)
tidy_cuts n m (node e f s) o = tidy_at m n e (cuts_d (node e f s)) o.0
    (tidy_mkz n e (without_d (cuts_d f) s) (cuts_d s) o.1 (tidy_without n (suc e) (cuts_d f) (tidy_cuts n (suc e) f o.2) s) (tidy_cuts n (suc e) s o.3))

-- nor any event from n on
pub sets_beyond : (m n : ℕ) (z : Diagram) (S : Set) → Ordered m n z → In S (sets_of z) → (i : ℕ) → n ≤ i → S i ≡ false
sets_beyond m n (leaf true) S o (inl e) i l = ap (λ v. v i) e
sets_beyond m n (leaf true) S o (inr h) i l = absurd h
sets_beyond m n (leaf false) S o h i l = absurd h
sets_beyond m n (node e f s) S o h i l = go (in_append S (map (put e true) (sets_of f)) (sets_of s) h)
    (λ T k. sets_beyond (suc e) n f T o.2 k i l) (λ k. sets_beyond (suc e) n s S o.3 k i l)
  where
    go : In S (map (put e true) (sets_of f)) ⊎ In S (sets_of s) → ((T : Set) → In T (sets_of f) → T i ≡ false) → (In S (sets_of s) → S i ≡ false) → S i ≡ false
    go (inl k) r t = let (T, j, q) = map_in (put e true) S (sets_of f) k in
        ap (λ v. v i) q ∙ put_other e true T i (λ w. omega (arith, o.1, w)) ∙ r T j
    go (inr k) r t = t k
