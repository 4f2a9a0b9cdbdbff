-- Laws of lists that grow at the end, of their sums, and of how many of their members are low.
-- Assumes nothing.
use mathlib.Core.Path.{◌≡◌, refl, sym, ap, ◌∙◌}
use mathlib.Core.Bool.{Bool, true}
use mathlib.Core.List.{List, [], ◌∷◌}
use Prim.Native.Nat.{ℕ, zero, suc, ◌+◌, ◌-◌, ◌≤◌, ◌<◌}
use native.Mathlib.Omega.{arith}
use native.Mathlib.Numerals.{add-one}
use lib.ListN.{length, get_or, take, get_or-append}
use lib.Seq.{take-nil, take_all, take-append-le, get_or-append_seam}
use lib.Dec.{ltb, eqb}
use borrow.Author.Tests.{ltb-true, ltb-false, lt-ltb, le-ltb, eqb-true}
use borrow.Author.Count.{below_more}
use Rattle.paper.specs.Lists.{sum}
use Rattle.std.specs.Prelude.{if◌then◌else◌}
use Rattle.records.specs.Uses.{among}
use Rattle.records.specs.Judge.{◌▷◌}
use Rattle.rules.proofs.Cases.{if_elim, either}
use Rattle.records.proofs.Pad.{length_▷}

module _ {A : Type 0} (xs : List A) (x d : A) where
  pub old : (i : ℕ) → i < length xs → get_or (◌▷◌ xs x) i d ≡ get_or xs i d
  old i h = get_or-append xs (x ∷ []) d i h

  pub new : (i : ℕ) → length xs ≡ i → get_or (◌▷◌ xs x) i d ≡ x
  new i e = rw (← e) (get_or-append_seam xs x [] d)

  -- what holds of every member, and of one more
  pub all_▷ : (P : ℕ → A → Type 0) → ((i : ℕ) → i < length xs → P i (get_or xs i d)) → P (length xs) x
      → (i : ℕ) → i < length (◌▷◌ xs x) → P i (get_or (◌▷◌ xs x) i d)
  all_▷ P all here i h =
      below_more (λ (k : ℕ). P k (get_or (◌▷◌ xs x) k d)) (length xs) (λ k l. rw (old k l) (all k l)) (rw (new (length xs) refl) here) i (rw length_▷ at h)

pub some_sizes : (ns : List ℕ) → 0 < sum ns → 0 < length ns
some_sizes [] h = absurd (omega arith)
some_sizes (n ∷ ns) h = omega arith

pub sum_▷ : (ns : List ℕ) (n : ℕ) → sum (◌▷◌ ns n) ≡ sum ns + n
sum_▷ [] n = omega arith
sum_▷ (m ∷ ns) n = rw (sum_▷ ns n) (omega arith)

-- one more of them, or nothing where there is no more
sum_suc : (ns : List ℕ) (g : ℕ) → sum (take (suc g) ns) ≡ sum (take g ns) + get_or ns g 0
sum_suc [] g = rw (take-nil (suc g), take-nil g)
sum_suc (n ∷ ns) zero = omega arith
sum_suc (n ∷ ns) (suc g) = omega (arith, sum_suc ns g)

pub sum_next : (ns : List ℕ) (g : ℕ) → sum (take (g + 1) ns) ≡ sum (take g ns) + get_or ns g 0
sum_next ns g = rw add-one (sum_suc ns g)

pub sum_take : (ns : List ℕ) (g : ℕ) → g < length ns → sum (take (g + 1) ns) ≡ sum (take g ns) + get_or ns g 0
sum_take ns g h = sum_next ns g

pub sum_rises : (ns : List ℕ) (g h : ℕ) → g ≤ h → sum (take g ns) ≤ sum (take h ns)
sum_rises ns zero h e = omega arith
sum_rises [] (suc g) h e = omega arith
sum_rises (n ∷ ns) (suc g) zero e = absurd (omega arith)
sum_rises (n ∷ ns) (suc g) (suc h) e = let r : sum (take g ns) ≤ sum (take h ns) = sum_rises ns g h (omega arith) in omega arith

-- all but the last, and the last
pub sum_last : (ns : List ℕ) → 1 ≤ length ns → sum (take (length ns - 1) ns) + get_or ns (length ns - 1) 0 ≡ sum ns
sum_last ns h =
    let g : ℕ = length ns - 1 in
    let all : g + 1 ≡ length ns = omega arith in
    sym (sum_next ns g) ∙ ap (λ (n : ℕ). sum (take n ns)) all ∙ ap sum (take_all (length ns) ns (omega arith))

pub sum_old : (ns : List ℕ) (n g : ℕ) → g ≤ length ns → sum (take g (◌▷◌ ns n)) ≡ sum (take g ns)
sum_old ns n g h = ap sum (take-append-le g ns (n ∷ []) h)

-- ---- how many members are below m

abbrev one : Bool → ℕ
one b = if b then 1 else 0

unfoldable pub belows : ℕ → List ℕ → ℕ
belows m [] = 0
belows m (x ∷ xs) = one (ltb x m) + belows m xs

pub belows_▷ : (m : ℕ) (xs : List ℕ) (x : ℕ) → belows m (◌▷◌ xs x) ≡ belows m xs + (if ltb x m then 1 else 0)
unfolding belows
belows_▷ m [] x = omega arith
belows_▷ m (y ∷ xs) x = rw (belows_▷ m xs x) (omega arith)

-- a higher bound has no fewer, and one more where the bound itself is a member
rise : (x m n : ℕ) → m ≤ n → one (ltb x m) ≤ one (ltb x n)
rise x m n h =
    if_elim (λ (k : ℕ). k ≤ one (ltb x n)) (ltb x m) (λ e. rw (lt-ltb x n (omega (arith, ltb-true x m e))) (omega arith)) (λ _. omega arith)

pub belows_rise : (xs : List ℕ) (m n : ℕ) → m ≤ n → belows m xs ≤ belows n xs
unfolding belows
belows_rise [] m n h = omega arith
belows_rise (x ∷ xs) m n h = omega (arith, rise x m n h, belows_rise xs m n h)

belows_more : (xs : List ℕ) (m : ℕ) → among m xs ≡ true → belows m xs + 1 ≤ belows (m + 1) xs
unfolding belows among
belows_more [] m e = let z : ◌≡◌ {A = ℕ} 0 1 = cc in absurd (omega arith)
belows_more (x ∷ xs) m e =
    either (eqb x m)
    (λ q.
    let same : x ≡ m = eqb-true x m q in
    rw (same, le-ltb m m (omega arith), lt-ltb m (m + 1) (omega arith)) (omega (arith, belows_rise xs m (m + 1) (omega arith))))
    (λ q. omega (arith, rise x m (m + 1) (omega arith), belows_more xs m (rw q at e)))

-- where each number below m is a member, at least m members are below m
pub all_below : (xs : List ℕ) (m : ℕ) → ((e : ℕ) → e < m → among e xs ≡ true) → m ≤ belows m xs
all_below xs zero all = omega arith
all_below xs (suc m) all =
    let step : belows m xs + 1 ≤ belows (suc m) xs = rw (← add-one m) (belows_more xs m (all m (omega arith))) in
    omega (arith, all_below xs m (λ e h. all e (omega arith)))

-- where the gates before the last have no input behind the N-th, and g has one, g is the last
pub last_is : (ns : List ℕ) (N g j : ℕ) → g < length ns → j < get_or ns g 0 → sum (take (length ns - 1) ns) ≤ N → N ≤ sum (take g ns) + j → g ≡ length ns - 1
last_is ns N g j h k before here =
    either (ltb (g + 1) (length ns))
    (λ e. let l : g + 1 < length ns = ltb-true (g + 1) (length ns) e in absurd (omega (arith, sum_next ns g, sum_rises ns (g + 1) (length ns - 1) (omega arith))))
    (λ e. omega (arith, ltb-false (g + 1) (length ns) e))
