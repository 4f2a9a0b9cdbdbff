-- Lists in order: no member twice, one list for each family, and what comes after a set.
-- Assumes nothing.
use mathlib.Core.Path.{◌≡◌, refl, sym, ap, ap₂, ◌∙◌, subst, fun_ext}
use mathlib.Core.Logic.{◌⊎◌, inl, inr, ◌↔◌}
use mathlib.Core.Bool.{Bool, true, false, cond, true≢false, false≢true}
use mathlib.Core.List.{List, [], ◌∷◌, ◌++◌, map}
use Prim.Native.Nat.{ℕ, zero, suc, ◌+◌, ◌≤◌, ◌<◌}
use native.Mathlib.Omega.{arith}
use Rattle.paper.specs.Lists.{In, keep}
use Rattle.paper.specs.Sets.{Set, put, all_sets}
use Rattle.paper.specs.Diagrams.{Diagram, eval, Ordered}
use Rattle.paper.specs.Cuts.{MinimalCut, sets_of, minimal_f, cut_list}
use Rattle.paper.specs.Order.{Before, Sorted, behind, rest}
use Rattle.algebra.specs.Families.{cuts_d}
use Rattle.algebra.proofs.Base.{put_same, put_other, Three, below, beyond, equal, three}
use Rattle.algebra.proofs.Lists.{in_right, in_append, map_in, keep_all, keep_in, in_keep}
use Rattle.algebra.proofs.Sets.{put_id, not_true}
use Rattle.algebra.proofs.Order.{before_irrefl, before_trans, sorted_append, sorted_put, sets_sorted}
use Rattle.algebra.proofs.Trim.{trim, trim_all, trim_at, trim_above}
use Rattle.algebra.proofs.Plain.{eval_trim}
use Rattle.algebra.proofs.Without.{Fit, tidy_cuts, sets_beyond}
use Rattle.algebra.proofs.Cuts.{cuts_law}
use Rattle.algebra.proofs.CutCount.{minimal_cut, cut_minimal}

-- no member stands twice
pub sorted_once : (S : Set) (l : List Set) → Sorted (S ∷ l) → In S l → ⊥
sorted_once S l p h = before_irrefl S (p.0 S h)

-- ONE LIST: two lists in order with the same members are equal
pub sorted_unique : (xs ys : List Set) → Sorted xs → Sorted ys → ((S : Set) → In S xs → In S ys) → ((S : Set) → In S ys → In S xs) → xs ≡ ys
sorted_unique [] [] p q f g = refl
sorted_unique [] (y ∷ ys) p q f g = absurd (g y (inl refl))
sorted_unique (x ∷ xs) [] p q f g = absurd (f x (inl refl))
sorted_unique (x ∷ xs) (y ∷ ys) p q f g = ap₂ ◌∷◌ same (sorted_unique xs ys p.1 q.1 (λ S h. tail x y xs ys same p f S h) (λ S h. tail y x ys xs (sym same) q g S h))
  where
    head : In x (y ∷ ys) → In y (x ∷ xs) → x ≡ y
    head (inl e) k = e
    head (inr h) (inl e) = sym e
    head (inr h) (inr k) = absurd (before_irrefl x (before_trans x y x (p.0 y k) (q.0 x h)))

    same : x ≡ y
    same = head (f x (inl refl)) (g y (inl refl))

    tail : (x y : Set) (xs ys : List Set) → x ≡ y → Sorted (x ∷ xs) → ((S : Set) → In S (x ∷ xs) → In S (y ∷ ys)) → (S : Set) → In S xs → In S ys
    tail x y xs ys e p f S h = go (f S (inr h))
      where
        go : In S (y ∷ ys) → In S ys
        go (inl w) = absurd (before_irrefl S (subst (λ W. Before W S) (e ∙ sym w) (p.0 S h)))
        go (inr k) = k

-- every set of n events stands once among them all
pub all_above : (k m : ℕ) (S : Set) → In S (all_sets k m) → (i : ℕ) → i < m → S i ≡ false
all_above zero m S (inl e) i l = ap (λ v. v i) e
all_above zero m S (inr h) i l = absurd h
all_above (suc k) m S h i l = go (in_append S (map (put m true) (all_sets k (suc m))) (map (put m false) (all_sets k (suc m))) h) (λ T j. all_above k (suc m) T j i (omega arith))
  where
    half : (b : Bool) → In S (map (put m b) (all_sets k (suc m))) → ((T : Set) → In T (all_sets k (suc m)) → T i ≡ false) → S i ≡ false
    half b h r = let (T, j, e) = map_in (put m b) S (all_sets k (suc m)) h in ap (λ v. v i) e ∙ put_other m b T i (λ q. omega arith) ∙ r T j

    go : In S (map (put m true) (all_sets k (suc m))) ⊎ In S (map (put m false) (all_sets k (suc m))) → ((T : Set) → In T (all_sets k (suc m)) → T i ≡ false) → S i ≡ false
    go (inl h) r = half true h r
    go (inr h) r = half false h r

map_id : (f : Set → Set) (xs : List Set) → ((S : Set) → In S xs → f S ≡ S) → map f xs ≡ xs
map_id f [] h = refl
map_id f (x ∷ xs) h = ap₂ ◌∷◌ (h x (inl refl)) (map_id f xs (λ S k. h S (inr k)))

pub all_sorted : (k m : ℕ) → Sorted (all_sets k m)
all_sorted zero m = ((λ T h. absurd h), tt)
all_sorted (suc k) m =
    rw (map_id (put m false) r (λ S h. put_id m false S (all_above k (suc m) S h m (omega arith))))
    (sorted_append (map (put m true) r) r (sorted_put m r (λ S h. all_above k (suc m) S h m (omega arith)) (all_sorted k (suc m))) (all_sorted k (suc m)) cross)
  where
    r : List Set
    r = all_sets k (suc m)

    cross : (S T : Set) → In S (map (put m true) r) → In T r → Before S T
    cross S T a b =
        let (R, j, q) = map_in (put m true) S r a in
        subst (λ W. Before W T) (sym q) (record {
          at = m;
          holds = put_same m true R;
          lacks = all_above k (suc m) T b m (omega arith);
          below = λ i l. put_other m true R i (λ w. omega arith) ∙ all_above k (suc m) R j i (omega arith) ∙ sym (all_above k (suc m) T b i (omega arith));
        })

-- ---- after a set

pub behind_before : (k m : ℕ) (S T : Set) → ((i : ℕ) → i < m → S i ≡ T i) → behind k m S T ≡ true → Before S T
behind_before zero m S T lo h = absurd (false≢true h)
behind_before (suc k) m S T lo h = go (S m) refl (T m) refl (λ e. behind_before k (suc m) S T (next e)) h
  where
    next : S m ≡ T m → (i : ℕ) → i < suc m → S i ≡ T i
    next e i l = pick (three i m)
      where
        pick : Three i m → S i ≡ T i
        pick (below h t) = lo i h
        pick (beyond h t u) = absurd (omega arith)
        pick (equal h t u) = ap S h ∙ e ∙ ap T (sym h)

    go : (a : Bool) → S m ≡ a → (b : Bool) → T m ≡ b → (S m ≡ T m → behind k (suc m) S T ≡ true → Before S T) → behind (suc k) m S T ≡ true → Before S T
    go true p true q r h = r (p ∙ sym q) (rw (p, q) at h)
    go true p false q r h = record { at = m; holds = p; lacks = q; below = lo }
    go false p true q r h = absurd (false≢true (rw (p, q) at h))
    go false p false q r h = r (p ∙ sym q) (rw (p, q) at h)

pub before_behind : (k m : ℕ) (S T : Set) (b : Before S T) → m ≤ b.at → b.at < m + k → behind k m S T ≡ true
before_behind zero m S T b x y = absurd (omega arith)
before_behind (suc k) m S T b x y = go (three m b.at) (before_behind k (suc m) S T b)
  where
    agree : (a c : Bool) → S m ≡ a → T m ≡ c → S m ≡ T m → behind k (suc m) S T ≡ true → behind (suc k) m S T ≡ true
    agree true true p q e r = rw (p, q) r
    agree true false p q e r = absurd (true≢false (sym p ∙ e ∙ q))
    agree false true p q e r = absurd (false≢true (sym p ∙ e ∙ q))
    agree false false p q e r = rw (p, q) r

    go : Three m b.at → (suc m ≤ b.at → b.at < suc m + k → behind k (suc m) S T ≡ true) → behind (suc k) m S T ≡ true
    go (below l u) r = agree (S m) (T m) refl refl (b.below m l) (r l (omega arith))
    go (beyond l u w) r = absurd (omega arith)
    go (equal l u w) r = rw (ap S l ∙ b.holds, ap T l ∙ b.lacks)

-- AFTER S: of sets of n events, those still to write are exactly those that S comes before
pub behind_law : (n : ℕ) (S T : Set) → ((i : ℕ) → n ≤ i → S i ≡ false) → (behind n 0 S T ≡ true) ↔ Before S T
behind_law n S T hi = (
  behind_before n 0 S T (λ i l. absurd (omega arith)),
  λ b. before_behind n 0 S T b (omega arith) (pick b (three b.at n)),
)
  where
    pick : (b : Before S T) → Three b.at n → b.at < 0 + n
    pick b (below l t) = omega arith
    pick b (beyond l t u) = absurd (true≢false (sym b.holds ∙ hi b.at (omega arith)))
    pick b (equal l t u) = absurd (true≢false (sym b.holds ∙ hi b.at (omega arith)))

-- and they stand at the end of the list: once one is behind S, so are all that follow
pub rest_suffix : (n : ℕ) (S : Set) → ((i : ℕ) → n ≤ i → S i ≡ false) → (l : List Set) → Sorted l → (p : List Set) × (l ≡ p ++ rest n S l)
rest_suffix n S hi [] s = ([], refl)
rest_suffix n S hi (x ∷ l) s = go (behind n 0 S x) refl (rest_suffix n S hi l s.1)
  where
    go : (b : Bool) → behind n 0 S x ≡ b → (p : List Set) × (l ≡ p ++ rest n S l) → (p : List Set) × (x ∷ l ≡ p ++ rest n S (x ∷ l))
    go true q r = ([], sym (keep_all (behind n 0 S) (x ∷ l) every))
      where
        every : (T : Set) → In T (x ∷ l) → behind n 0 S T ≡ true
        every T (inl e) = ap (behind n 0 S) e ∙ q
        every T (inr h) = (behind_law n S T hi).1 (before_trans S x T ((behind_law n S x hi).0 q) (s.0 T h))
    go false q (p, e) = (x ∷ p, rw q (ap (x ∷◌) e))

-- ---- all minimal cuts in order

pub sorted_keep : (t : Set → Bool) (l : List Set) → Sorted l → Sorted (keep t l)
sorted_keep t [] s = tt
sorted_keep t (x ∷ l) s = go (t x) (sorted_keep t l s.1)
  where
    go : (b : Bool) → Sorted (keep t l) → Sorted (cond b (x ∷ keep t l) (keep t l))
    go true r = ((λ T h. s.0 T (keep_in t T l h).0), r)
    go false r = r

pub all_beyond : (k m : ℕ) (S : Set) → In S (all_sets k m) → (i : ℕ) → m + k ≤ i → S i ≡ false
all_beyond zero m S (inl e) i l = ap (λ v. v i) e
all_beyond zero m S (inr h) i l = absurd h
all_beyond (suc k) m S h i l = go (in_append S (map (put m true) (all_sets k (suc m))) (map (put m false) (all_sets k (suc m))) h) (λ T j. all_beyond k (suc m) T j i (omega arith))
  where
    half : (b : Bool) → In S (map (put m b) (all_sets k (suc m))) → ((T : Set) → In T (all_sets k (suc m)) → T i ≡ false) → S i ≡ false
    half b h r = let (T, j, e) = map_in (put m b) S (all_sets k (suc m)) h in ap (λ v. v i) e ∙ put_other m b T i (λ q. omega arith) ∙ r T j

    go : In S (map (put m true) (all_sets k (suc m))) ⊎ In S (map (put m false) (all_sets k (suc m))) → ((T : Set) → In T (all_sets k (suc m)) → T i ≡ false) → S i ≡ false
    go (inl h) r = half true h r
    go (inr h) r = half false h r

-- a set with no event from n on is its own part, and one of all
pub trim_whole : (n : ℕ) (S : Set) → ((i : ℕ) → n ≤ i → S i ≡ false) → trim n 0 S ≡ S
trim_whole n S h = fun_ext (λ i. go i (three i n))
  where
    go : (i : ℕ) → Three i n → trim n 0 S i ≡ S i
    go i (below l t) = trim_at n 0 S i (omega arith) (omega arith)
    go i (beyond l t u) = trim_above n 0 S i (omega arith) ∙ sym (h i (omega arith))
    go i (equal l t u) = trim_above n 0 S i (omega arith) ∙ sym (h i (omega arith))

-- THE LISTING: the cut diagram lists all minimal cuts in order
pub listing_law : (n : ℕ) (d : Diagram) → Fit n 0 d → sets_of (cuts_d d) ≡ cut_list n (eval d)
unfolding cut_list
listing_law n d h = sorted_unique (sets_of (cuts_d d)) (cut_list n (eval d)) (sets_sorted n 0 (cuts_d d) o) (sorted_keep (minimal_f n (eval d)) (all_sets n 0) (all_sorted n 0)) to from
  where
    o : Ordered 0 n (cuts_d d)
    o = (tidy_cuts n 0 d h.ordered).0

    local : (v : Set) → eval d (trim n 0 v) ≡ eval d v
    local v = eval_trim n d v h.ordered

    to : (S : Set) → In S (sets_of (cuts_d d)) → In S (cut_list n (eval d))
    to S k =
        let same : trim n 0 S ≡ S = trim_whole n S (λ i l. sets_beyond 0 n (cuts_d d) S o k i l) in
        in_keep (minimal_f n (eval d)) S (all_sets n 0) (subst (λ W. In W (all_sets n 0)) same (trim_all n 0 S))
        (cut_minimal n (eval d) local S (subst (MinimalCut (eval d)) (sym same) ((cuts_law n 0 d h S).0 k)))

    from : (S : Set) → In S (cut_list n (eval d)) → In S (sets_of (cuts_d d))
    from S k =
        let (i, t) = keep_in (minimal_f n (eval d)) S (all_sets n 0) k in
        let same : trim n 0 S ≡ S = trim_whole n S (λ j l. all_beyond n 0 S i j (omega arith)) in
        (cuts_law n 0 d h S).1 (subst (MinimalCut (eval d)) same (minimal_cut n (eval d) local S t))

not_behind : (n : ℕ) (S T : Set) → ((i : ℕ) → n ≤ i → S i ≡ false) → (Before S T → ⊥) → behind n 0 S T ≡ false
not_behind n S T hi h = not_true (behind n 0 S T) (λ t. h ((behind_law n S T hi).0 t))

-- HANDED ON: after the set that was written last, exactly what stood behind it is still to write
pub rest_after : (n : ℕ) (S : Set) → ((i : ℕ) → n ≤ i → S i ≡ false) → (p q : List Set) → Sorted (p ++ (S ∷ q)) → rest n S (p ++ (S ∷ q)) ≡ q
rest_after n S hi [] q s = rw (not_behind n S S hi (before_irrefl S)) (keep_all (behind n 0 S) q (λ T h. (behind_law n S T hi).1 (s.0 T h)))
rest_after n S hi (x ∷ p) q s = rw (not_behind n S x hi (λ b. before_irrefl S (before_trans S x S b (s.0 S (in_right S p (S ∷ q) (inl refl)))))) (rest_after n S hi p q s.1)
