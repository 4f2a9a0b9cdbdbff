-- The count of a diagram by recursion, and the bound of a node's counts by the root's.
-- Assumes nothing.
use mathlib.Core.Path.{◌≡◌, refl, sym, ap, ap₂, ◌∙◌}
use mathlib.Core.Bool.{Bool, true, false, cond}
use mathlib.Core.List.{[], ◌∷◌, map}
use Prim.Native.Nat.{ℕ, zero, suc, ◌+◌, ◌≤◌, ◌<◌, max}
use native.Mathlib.Decide.{ℕ_discrete}
use native.Mathlib.Omega.{arith}
use lib.Dec.{eqb}
use mir.Val.{bool_byte}
use lib.ListN.{length, length-append, length-map}
use borrow.Author.Tests.{eqb-true, eq-eqb, ne_eqb}
use Rattle.paper.specs.Lists.{keep, up_to}
use Rattle.paper.specs.Sets.{Set, none, put}
use Rattle.paper.specs.Diagrams.{Diagram, leaf, node, Ordered}
use Rattle.paper.specs.Cuts.{sets_of}
use Rattle.algebra.proofs.Base.{put_same, put_other}
use Rattle.algebra.proofs.Lists.{bool_iff, keep_append, keep_map, keep_none, keep_same}
use Rattle.algebra.proofs.Without.{sets_above}
use Rattle.paper.specs.Sizes.{size_of, of_size, count_of}
use Rattle.sizes.specs.Recursion.{lowered, single, sized, deepest}

-- ---- one member more

keep_above : (k m e : ℕ) (S : Set) → e < m → keep (put e true S) (up_to k m) ≡ keep S (up_to k m)
keep_above zero m e S h = refl
keep_above (suc k) m e S h = ap₂ (λ b r. cond b (m ∷ r) r) (put_other e true S m (λ q. omega (arith, q, h))) (keep_above k (suc m) e S (omega arith))

more : (k m e : ℕ) (S : Set) → m ≤ e → e < m + k → S e ≡ false → length (keep (put e true S) (up_to k m)) ≡ suc (length (keep S (up_to k m)))
more zero m e S a b h = absurd (omega arith)
more (suc k) m e S a b h = go (ℕ_discrete m e) (more k (suc m) e S)
  where
    go : Dec (m ≡ e) → (suc m ≤ e → e < suc m + k → S e ≡ false → length (keep (put e true S) (up_to k (suc m))) ≡ suc (length (keep S (up_to k (suc m)))))
        → length (cond (put e true S m) (m ∷ keep (put e true S) (up_to k (suc m))) (keep (put e true S) (up_to k (suc m)))) ≡ suc (length (cond (S m) (m ∷ keep S (up_to k (suc m))) (keep S (up_to k (suc m)))))
    go (yes q) r =
        ap (λ b. length (cond b (m ∷ keep (put e true S) (up_to k (suc m))) (keep (put e true S) (up_to k (suc m))))) (ap (put e true S) q ∙ put_same e true S)
        ∙ ap (λ l. suc (length l)) (keep_above k (suc m) e S (omega arith))
        ∙ sym (ap (λ b. suc (length (cond b (m ∷ keep S (up_to k (suc m))) (keep S (up_to k (suc m)))))) (ap S q ∙ h))
    go (no q) r =
        ap (λ b. length (cond b (m ∷ keep (put e true S) (up_to k (suc m))) (keep (put e true S) (up_to k (suc m))))) (put_other e true S m q)
        ∙ by (S m) (r (omega arith) (omega arith) h)
      where
        by : (b : Bool) → length (keep (put e true S) (up_to k (suc m))) ≡ suc (length (keep S (up_to k (suc m))))
            → length (cond b (m ∷ keep (put e true S) (up_to k (suc m))) (keep (put e true S) (up_to k (suc m)))) ≡ suc (length (cond b (m ∷ keep S (up_to k (suc m))) (keep S (up_to k (suc m)))))
        by true p = ap suc p
        by false p = p

pub size_put : (n e : ℕ) (S : Set) → e < n → S e ≡ false → size_of n (put e true S) ≡ suc (size_of n S)
unfolding size_of
size_put n e S l h = more n 0 e S (omega arith) (omega arith) h

size_none : (n : ℕ) → size_of n none ≡ 0
unfolding size_of
size_none n = ap length (keep_none none (up_to n 0) (λ i h. refl))

-- ---- the recursion

eqb_suc : (a b : ℕ) → eqb (suc a) (suc b) ≡ eqb a b
eqb_suc a b = bool_iff (eqb (suc a) (suc b)) (eqb a b)
    (λ h. let q = eqb-true (suc a) (suc b) h in eq-eqb a b (omega arith))
    (λ h. let q = eqb-true a b h in eq-eqb (suc a) (suc b) (omega arith))

failed_part : (n e : ℕ) (f : Diagram) → e < n → Ordered (suc e) n f → (k : ℕ)
    → length (keep (λ S. eqb (size_of n (put e true S)) k) (sets_of f)) ≡ lowered (λ j. count_of n j f) k
unfolding of_size
failed_part n e f l o zero = ap length (keep_none (λ S. eqb (size_of n (put e true S)) 0) (sets_of f)
    (λ S h. let q = size_put n e S l (sets_above (suc e) n f S o h e (omega arith)) in ne_eqb (size_of n (put e true S)) 0 (λ z. omega (arith, q, z))))
failed_part n e f l o (suc k) = ap length (keep_same (λ S. eqb (size_of n (put e true S)) (suc k)) (λ S. eqb (size_of n S) k) (sets_of f)
    (λ S h. ap (λ a. eqb a (suc k)) (size_put n e S l (sets_above (suc e) n f S o h e (omega arith))) ∙ eqb_suc (size_of n S) k))

-- THE RECURSION: a set of the failed branch has one member more at the node
pub count_node : (n e : ℕ) (f s : Diagram) → e < n → Ordered (suc e) n f → (k : ℕ) → count_of n k (node e f s) ≡ lowered (λ j. count_of n j f) k + count_of n k s
unfolding of_size
count_node n e f s l o k =
    let t : Set → Bool = λ S. eqb (size_of n S) k in
    ap length (keep_append t (map (put e true) (sets_of f)) (sets_of s))
    ∙ length-append (keep t (map (put e true) (sets_of f))) (keep t (sets_of s))
    ∙ ap (λ a. a + length (keep t (sets_of s))) (ap length (keep_map (put e true) t (sets_of f)) ∙ length-map (keep (λ S. t (put e true S)) (sets_of f)) (put e true) ∙ failed_part n e f l o k)

pub count_none : (n e : ℕ) (f s : Diagram) → e < n → Ordered (suc e) n f → count_of n 0 (node e f s) ≡ count_of n 0 s
count_none n e f s l o = let q : 0 + count_of n 0 s ≡ count_of n 0 s = omega arith in count_node n e f s l o 0 ∙ q

pub count_more : (n e : ℕ) (f s : Diagram) → e < n → Ordered (suc e) n f → (k : ℕ) → count_of n (suc k) (node e f s) ≡ count_of n k f + count_of n (suc k) s
count_more n e f s l o k = count_node n e f s l o (suc k)

lowered_same : (g h : ℕ → ℕ) → ((k : ℕ) → g k ≡ h k) → (k : ℕ) → lowered g k ≡ lowered h k
lowered_same g h p zero = refl
lowered_same g h p (suc k) = p k

count_leaf : (n : ℕ) (b : Bool) (k : ℕ) → count_of n k (leaf b) ≡ cond b (single k) 0
unfolding of_size
count_leaf n false k = refl
count_leaf n true zero = ap (λ b. length (cond b (none ∷ []) [])) (eq-eqb (size_of n none) 0 (size_none n))
count_leaf n true (suc k) = ap (λ b. length (cond b (none ∷ []) [])) (ne_eqb (size_of n none) (suc k) (λ q. omega (arith, q, size_none n)))

-- THE COUNT of an ordered diagram by recursion
pub count_sized : (n m : ℕ) (d : Diagram) → Ordered m n d → (k : ℕ) → count_of n k d ≡ sized d k
unfolding sized
count_sized n m (leaf b) o k = count_leaf n b k
count_sized n m (node e f s) o k =
    count_node n e f s o.1 o.2 k
    ∙ ap₂ ◌+◌ (lowered_same (λ j. count_of n j f) (sized f) (count_sized n (suc e) f o.2) k) (count_sized n (suc e) s o.3 k)

-- ---- reading the recursion

pub lowered_next : (g : ℕ → ℕ) (k : ℕ) → lowered g (k + 1) ≡ g k
lowered_next g k = let q : k + 1 ≡ suc k = omega arith in ap (lowered g) q

pub sized_node : (e : ℕ) (f s : Diagram) (k : ℕ) → sized (node e f s) k ≡ lowered (sized f) k + sized s k
unfolding sized
sized_node e f s k = refl

pub sized_leaf : (b : Bool) (k : ℕ) → sized (leaf b) k ≡ cond b (single k) 0
unfolding sized
sized_leaf b k = refl

pub single_is : (k : ℕ) → bool_byte (eqb k 0) ≡ single k
single_is zero = refl
single_is (suc k) = ap bool_byte (ne_eqb (suc k) 0 (λ z. omega (arith, z)))

pub single_small : (k : ℕ) → single k ≤ 1
single_small zero = omega arith
single_small (suc k) = omega arith

-- a set of k members of the failed branch is one of k + 1 of the node
pub failed_le : (e : ℕ) (f s : Diagram) (k : ℕ) → sized f k ≤ sized (node e f s) (k + 1)
failed_le e f s k = let a = sized_node e f s (k + 1) in let b = lowered_next (sized f) k in omega (arith, a, b)

pub sound_le : (e : ℕ) (f s : Diagram) (k : ℕ) → sized s k ≤ sized (node e f s) k
sound_le e f s k = let a = sized_node e f s k in omega (arith, a)

-- ---- the largest size

pub deepest_leaf : (b : Bool) → deepest (leaf b) ≡ 0
unfolding deepest
deepest_leaf b = refl

pub deepest_node : (e : ℕ) (f s : Diagram) → deepest (node e f s) ≡ max (deepest f + 1) (deepest s)
unfolding deepest
deepest_node e f s = refl

-- no set has more members than there are events left
pub deepest_within : (m n : ℕ) (d : Diagram) → Ordered m n d → m ≤ n → m + deepest d ≤ n
unfolding deepest
deepest_within m n (leaf b) o a = omega arith
deepest_within m n (node e f s) o a =
    let low = o.0 in
    let high = o.1 in
    let x = deepest_within (suc e) n f o.2 (omega arith) in
    let y = deepest_within (suc e) n s o.3 (omega arith) in
    omega arith

-- above it no size occurs
pub sized_above : (d : Diagram) (k : ℕ) → deepest d < k → sized d k ≡ 0
unfolding deepest sized
sized_above (leaf false) k h = refl
sized_above (leaf true) zero h = absurd (omega arith)
sized_above (leaf true) (suc k) h = refl
sized_above (node e f s) zero h = absurd (omega arith)
sized_above (node e f s) (suc k) h = ap₂ ◌+◌ (sized_above f k (omega arith)) (sized_above s (suc k) (omega arith))
