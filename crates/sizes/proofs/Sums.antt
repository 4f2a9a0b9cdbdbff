-- THE COUNTS ADD UP: a set of n events has one size, from 0 to n, so that the counts of all sizes together are the number of sets.
-- Assumes nothing.
use mathlib.Core.Path.{◌≡◌, refl, ap, ap₂, ◌∙◌}
use mathlib.Core.Bool.{Bool, true, false, cond}
use mathlib.Core.Logic.{inl, inr}
use mathlib.Core.List.{List, [], ◌∷◌, map}
use Prim.Native.Nat.{ℕ, zero, suc, ◌+◌, ◌≤◌, ◌<◌}
use native.Mathlib.Decide.{ℕ_discrete}
use native.Mathlib.Omega.{arith}
use lib.Dec.{eqb}
use lib.ListN.{length}
use borrow.Author.Tests.{eq-eqb, ne_eqb}
use Rattle.paper.specs.Lists.{In, keep, up_to, sum, sum_of}
use Rattle.paper.specs.Sets.{Set}
use Rattle.paper.specs.Sizes.{size_of, of_size, sizes, together}
use Rattle.algebra.proofs.Lists.{map_same}
use Rattle.sets.proofs.Count.{count_le}

-- ---- sums

sum_none : (f : ℕ → ℕ) (l : List ℕ) → ((k : ℕ) → f k ≡ 0) → sum (map f l) ≡ 0
sum_none f [] h = refl
sum_none f (x ∷ l) h = ap₂ ◌+◌ (h x) (sum_none f l h)

sum_both : (f g : ℕ → ℕ) (l : List ℕ) → sum (map (λ k. f k + g k) l) ≡ sum (map f l) + sum (map g l)
sum_both f g [] = omega arith
sum_both f g (x ∷ l) = let h = sum_both f g l in omega (arith, h)

-- 1 where j is x
abbrev one : ℕ → ℕ → ℕ
one x j = cond (eqb x j) 1 0

one_late : (x k m : ℕ) → x < m → sum (map (one x) (up_to k m)) ≡ 0
one_late x zero m h = refl
one_late x (suc k) m h = ap₂ (λ b r. cond b 1 0 + r) (ne_eqb x m (λ q. omega (arith, q, h))) (one_late x k (suc m) (omega arith))

-- x stands once among the k numbers from m on
one_hit : (x k m : ℕ) → m ≤ x → x < m + k → sum (map (one x) (up_to k m)) ≡ 1
one_hit x zero m a b = absurd (omega arith)
one_hit x (suc k) m a b = go (ℕ_discrete x m) (one_hit x k (suc m))
  where
    go : Dec (x ≡ m) → (suc m ≤ x → x < suc m + k → sum (map (one x) (up_to k (suc m))) ≡ 1) → one x m + sum (map (one x) (up_to k (suc m))) ≡ 1
    go (yes q) r = ap₂ (λ b s. cond b 1 0 + s) (eq-eqb x m q) (one_late x k (suc m) (omega arith))
    go (no q) r = ap₂ (λ b s. cond b 1 0 + s) (ne_eqb x m q) (r (omega arith) (omega arith))

up_to_low : (i k m : ℕ) → In i (up_to k m) → i < m + k
up_to_low i zero m h = absurd h
up_to_low i (suc k) m (inl e) = omega arith
up_to_low i (suc k) m (inr h) = let r = up_to_low i k (suc m) h in omega arith

-- what agrees below n has one sum
pub sum_same : (n : ℕ) (f g : ℕ → ℕ) → ((k : ℕ) → k < n → f k ≡ g k) → sum_of n f ≡ sum_of n g
sum_same n f g h = ap sum (map_same f g (up_to n 0) (λ k i. h k (let r = up_to_low k n 0 i in omega arith)))

-- ---- one set more

size_le : (n : ℕ) (S : Set) → size_of n S ≤ n
unfolding size_of
size_le n S = count_le S n 0

none_of : (n k : ℕ) → of_size n k [] ≡ 0
unfolding of_size
none_of n k = refl

more_of : (n k : ℕ) (S : Set) (l : List Set) → of_size n k (S ∷ l) ≡ one (size_of n S) k + of_size n k l
unfolding of_size
more_of n k S l = go (eqb (size_of n S) k) (keep (λ T. eqb (size_of n T) k) l)
  where
    go : (b : Bool) (r : List Set) → length (cond b (S ∷ r) r) ≡ cond b 1 0 + length r
    go true r = omega arith
    go false r = omega arith

add_up : (n m : ℕ) (l : List Set) → n < m → sum (map (λ k. of_size n k l) (up_to m 0)) ≡ length l
add_up n m [] h = sum_none (λ k. of_size n k []) (up_to m 0) (none_of n)
add_up n m (S ∷ l) h =
    let a : size_of n S ≤ n = size_le n S in
    let e : sum (map (one (size_of n S)) (up_to m 0)) ≡ 1 = one_hit (size_of n S) m 0 (omega arith) (omega arith) in
    let r = add_up n m l h in
    let q : sum (map (one (size_of n S)) (up_to m 0)) + sum (map (λ k. of_size n k l) (up_to m 0)) ≡ suc (length l) = omega (arith, e, r) in
    ap sum (map_same (λ k. of_size n k (S ∷ l)) (λ k. one (size_of n S) k + of_size n k l) (up_to m 0) (λ k _. more_of n k S l))
    ∙ sum_both (one (size_of n S)) (λ k. of_size n k l) (up_to m 0) ∙ q

-- ---- all sizes

-- THE SUM: of any sets
pub together_sets : (n : ℕ) (l : List Set) → n < sizes → together (λ k. of_size n k l) ≡ length l
unfolding together
together_sets n l h = add_up n sizes l h

-- counts that agree below the number of sizes have one sum
pub together_same : (f g : ℕ → ℕ) → ((k : ℕ) → k < sizes → f k ≡ g k) → together f ≡ together g
unfolding together
together_same f g h = sum_same sizes f g h
