-- Totals by size: counts added one tree after the other; 19 exactly where a true total is too large.
-- Assumes nothing.
use mathlib.Core.Path.{◌≡◌, refl, sym, ap, ◌∙◌, subst}
use mathlib.Core.List.{List, [], ◌∷◌, ◌++◌}
use Prim.Native.Nat.{ℕ, ◌+◌, ◌≤◌, ◌<◌}
use native.Mathlib.Omega.{arith}
use lib.ListN.{get_or, replicate, get_or-replicate}
use Rattle.std.specs.Prelude.{Option, Some, None}
use Rattle.paper.specs.Trees.{Tree}
use Rattle.paper.specs.Sizes.{cuts_of_size, largest, sizes}
use Rattle.totals.specs.Adding.{Due}
use Rattle.folder.specs.Totals.{total_of, Above, Fits}
use Rattle.folder.specs.Steps.{Sums}

total_none : (k : ℕ) → total_of k [] ≡ 0
unfolding total_of
total_none k = refl

total_first : (k : ℕ) (t : Tree) (ts : List Tree) → total_of k (t ∷ ts) ≡ cuts_of_size t k + total_of k ts
unfolding total_of
total_first k t ts = refl

pub total_one : (k : ℕ) (t : Tree) → total_of k (t ∷ []) ≡ cuts_of_size t k
total_one k t = let a = total_first k t [] in let b = total_none k in omega (arith, a, b)

total_last : (k : ℕ) (ts : List Tree) (t : Tree) → total_of k (ts ++ (t ∷ [])) ≡ total_of k ts + cuts_of_size t k
total_last k [] t = let a = total_one k t in let b = total_none k in omega (arith, a, b)
total_last k (u ∷ ts) t = let a = total_first k u (ts ++ (t ∷ [])) in let b = total_first k u ts in let c = total_last k ts t in omega (arith, a, b, c)

-- no tree yet
pub sums_none : {L : List ℕ} → L ≡ replicate sizes 0 → Sums [] L (Some tt)
sums_none {L} z = record {
  fits = λ _. record { each = λ k l. let e = total_none k in omega (arith, e) };
  exact = λ _ k l. ap (λ x. get_or x k 0) z ∙ get_or-replicate sizes k 0 0 l ∙ sym (total_none k);
  over = λ n. cc;
}

-- one more tree
module _ (t : Tree) {ts : List Tree} {L L' : List ℕ} {before r : Option (Unit {0})} (g : Sums ts L before) (s : Due (cuts_of_size t) before L L' r) where
  -- where all fits behind it, all did before it
  fits_before : (b : Option (Unit {0})) → before ≡ b → r ≡ Some tt → before ≡ Some tt
  fits_before (Some u) e z = e
  fits_before None e z = let n = s.stays e in cc

  is : before ≡ Some tt → (k : ℕ) → k < sizes → get_or L k 0 + cuts_of_size t k ≡ total_of k (ts ++ (t ∷ []))
  is e k l = ap (λ x. x + cuts_of_size t k) (g.exact e k l) ∙ sym (total_last k ts t)

  above : (b : Option (Unit {0})) → before ≡ b → r ≡ None → Above (ts ++ (t ∷ []))
  above (Some u) e n =
      let b = s.over e n in
      record { size = b.size; within = b.within; large = subst (λ x. largest < x) (is e b.size b.within) b.large }
  above None e n =
      let b = g.over e in
      let h = b.large in
      let c = total_last b.size ts t in
      record { size = b.size; within = b.within; large = omega (arith, h, c) }

  pub sums_more : Sums (ts ++ (t ∷ [])) L' r
  sums_more = record {
    fits = λ z. let e = fits_before before refl z in record { each = λ k l. subst (λ x. x ≤ largest) (is e k l) ((s.fits e z).small k l) };
    exact = λ z k l. let e = fits_before before refl z in (s.fits e z).below k l ∙ is e k l;
    over = λ n. above before refl n;
  }

-- the two do not meet
pub above_or_fits : {ts : List Tree} → Above ts → Fits ts → ⊥
above_or_fits a f = let h = a.large in let l = f.each a.size a.within in omega (arith, h, l)
