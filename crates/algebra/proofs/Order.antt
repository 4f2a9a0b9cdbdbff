-- The sets of an ordered zero-suppressed diagram stand in order.
-- Assumes nothing.
use mathlib.Core.Path.{◌≡◌, refl, sym, ap, ◌∙◌, subst, fun_ext}
use mathlib.Core.Logic.{◌≢◌, ◌⊎◌, inl, inr, ◌↔◌}
use mathlib.Core.Bool.{Bool, true, false, cond, true≢false, false≢true}
use mathlib.Core.List.{List, [], ◌∷◌, ◌++◌, map}
use Prim.Native.Nat.{ℕ, zero, suc, ◌+◌, ◌≤◌, ◌<◌}
use native.Mathlib.Omega.{arith}
use lib.Dec.{eqb}
use Rattle.paper.specs.Lists.{In}
use Rattle.paper.specs.Sets.{Set, none, put}
use Rattle.paper.specs.Diagrams.{Diagram, leaf, node, Ordered}
use Rattle.paper.specs.Cuts.{sets_of, Denotes}
use Rattle.paper.specs.Order.{Before, Sorted}
use Rattle.algebra.proofs.Base.{put_same, put_other, Three, below, beyond, equal, three}
use Rattle.algebra.proofs.Lists.{in_append, in_left, in_right, map_in, in_map}
use Rattle.algebra.proofs.Without.{sets_above}

-- ---- the order

pub before_irrefl : (S : Set) → Before S S → ⊥
before_irrefl S b = true≢false (sym b.holds ∙ b.lacks)

pub before_trans : (R S T : Set) → Before R S → Before S T → Before R T
before_trans R S T a b = go (three a.at b.at)
  where
    go : Three a.at b.at → Before R T
    go (below l t) = record { at = a.at; holds = a.holds; lacks = sym (b.below a.at l) ∙ a.lacks; below = λ i k. a.below i k ∙ b.below i (omega arith) }
    go (beyond l t u) = record { at = b.at; holds = a.below b.at l ∙ b.holds; lacks = b.lacks; below = λ i k. a.below i (omega arith) ∙ b.below i k }
    go (equal l t u) = absurd (true≢false (sym b.holds ∙ ap S (sym l) ∙ a.lacks))

-- of two sets of events below m + k that agree below m, one comes first or they are equal
pub before_total : (k m : ℕ) (S T : Set) → ((i : ℕ) → i < m → S i ≡ T i) → ((i : ℕ) → m + k ≤ i → S i ≡ T i) → Before S T ⊎ ((S ≡ T) ⊎ Before T S)
before_total zero m S T lo hi = inr (inl (fun_ext (λ i. go i (three i m))))
  where
    go : (i : ℕ) → Three i m → S i ≡ T i
    go i (below l t) = lo i l
    go i (beyond l t u) = hi i (omega arith)
    go i (equal l t u) = hi i (omega arith)
before_total (suc k) m S T lo hi = go (S m) refl (T m) refl (λ q. before_total k (suc m) S T (next q) (λ i h. hi i (omega arith)))
  where
    next : S m ≡ T m → (i : ℕ) → i < suc m → S i ≡ T i
    next q i l = pick (three i m)
      where
        pick : Three i m → S i ≡ T i
        pick (below h t) = lo i h
        pick (beyond h t u) = absurd (omega arith)
        pick (equal h t u) = ap S h ∙ q ∙ ap T (sym h)

    go : (a : Bool) → S m ≡ a → (b : Bool) → T m ≡ b → (S m ≡ T m → Before S T ⊎ ((S ≡ T) ⊎ Before T S)) → Before S T ⊎ ((S ≡ T) ⊎ Before T S)
    go true p true q r = r (p ∙ sym q)
    go true p false q r = inl (record { at = m; holds = p; lacks = q; below = lo })
    go false p true q r = inr (inr (record { at = m; holds = q; lacks = p; below = λ i h. sym (lo i h) }))
    go false p false q r = r (p ∙ sym q)

-- ---- lists in order

pub sorted_append : (xs ys : List Set) → Sorted xs → Sorted ys → ((S T : Set) → In S xs → In T ys → Before S T) → Sorted (xs ++ ys)
sorted_append [] ys p q h = q
sorted_append (x ∷ xs) ys p q h = ((λ T k. go T (in_append T xs ys k)), sorted_append xs ys p.1 q (λ S T a b. h S T (inr a) b))
  where
    go : (T : Set) → In T xs ⊎ In T ys → Before x T
    go T (inl k) = p.0 T k
    go T (inr k) = h x T (inl refl) k

put_before : (e : ℕ) (S T : Set) → S e ≡ false → Before S T → Before (put e true S) (put e true T)
put_before e S T q b =
    let other : b.at ≢ e = λ w. true≢false (sym b.holds ∙ ap S w ∙ q) in
    record {
      at = b.at;
      holds = put_other e true S b.at other ∙ b.holds;
      lacks = put_other e true T b.at other ∙ b.lacks;
      below = λ i l. ap (cond (eqb i e) true) (b.below i l);
    }

pub sorted_put : (e : ℕ) (xs : List Set) → ((S : Set) → In S xs → S e ≡ false) → Sorted xs → Sorted (map (put e true) xs)
sorted_put e [] h p = tt
sorted_put e (x ∷ xs) h p = (
  (λ T k. let (R, j, q) = map_in (put e true) T xs k in subst (Before (put e true x)) (sym q) (put_before e x R (h x (inl refl)) (p.0 R j))),
  sorted_put e xs (λ S k. h S (inr k)) p.1,
)

-- IN ORDER: the sets of an ordered diagram, each before all that follow it, so none twice
pub sets_sorted : (n m : ℕ) (z : Diagram) → Ordered m n z → Sorted (sets_of z)
sets_sorted n m (leaf true) o = ((λ T k. absurd k), tt)
sets_sorted n m (leaf false) o = tt
sets_sorted n m (node e f s) o =
    sorted_append (map (put e true) (sets_of f)) (sets_of s)
    (sorted_put e (sets_of f) (λ S k. sets_above (suc e) n f S o.2 k e (omega arith)) (sets_sorted n (suc e) f o.2))
    (sets_sorted n (suc e) s o.3)
    cross
  where
    cross : (S T : Set) → In S (map (put e true) (sets_of f)) → In T (sets_of s) → Before S T
    cross S T a b =
        let (R, j, q) = map_in (put e true) S (sets_of f) a in
        subst (λ W. Before W T) (sym q) (record {
          at = e;
          holds = put_same e true R;
          lacks = sets_above (suc e) n s T o.3 b e (omega arith);
          below = λ i l. put_other e true R i (λ w. omega arith) ∙ sets_above (suc e) n f R o.2 j i (omega arith) ∙ sym (sets_above (suc e) n s T o.3 b i (omega arith));
        })

-- COMPLETE: the list holds exactly the sets that the diagram denotes
pub sets_complete : (z : Diagram) (S : Set) → In S (sets_of z) ↔ Denotes z S
sets_complete (leaf true) S = (go, λ d. inl d.1)
  where
    go : In S (none ∷ []) → (true ≡ true) × (S ≡ none)
    go (inl q) = (refl, q)
    go (inr k) = absurd k
sets_complete (leaf false) S = ((λ k. absurd k), λ d. false≢true d.0)
sets_complete (node e f s) S = (
  (λ k. to (λ T. (sets_complete f T).0) (sets_complete s S).0 (in_append S (map (put e true) (sets_of f)) (sets_of s) k)),
  from (λ T. (sets_complete f T).1) (sets_complete s S).1,
)
  where
    to : ((T : Set) → In T (sets_of f) → Denotes f T) → (In S (sets_of s) → Denotes s S) → In S (map (put e true) (sets_of f)) ⊎ In S (sets_of s) → Denotes (node e f s) S
    to rf rs (inl k) = let (T, j, q) = map_in (put e true) S (sets_of f) k in inl (T, rf T j, q)
    to rf rs (inr k) = inr (rs k)

    from : ((T : Set) → Denotes f T → In T (sets_of f)) → (Denotes s S → In S (sets_of s)) → Denotes (node e f s) S → In S (sets_of (node e f s))
    from rf rs (inl (T, d, q)) = in_left S (map (put e true) (sets_of f)) (sets_of s) (subst (λ W. In W (map (put e true) (sets_of f))) (sym q) (in_map (put e true) T (sets_of f) (rf T d)))
    from rf rs (inr d) = in_right S (map (put e true) (sets_of f)) (sets_of s) (rs d)
