-- An array that is filled from its front on.
-- Assumes nothing.
use mathlib.Core.Path.{◌≡◌, refl, sym, ap, ◌∙◌}
use mathlib.Core.Bool.{Bool, true, false}
use mathlib.Core.List.{List, [], ◌∷◌, ◌++◌}
use Prim.Native.Nat.{ℕ, zero, suc, ◌+◌, ◌≤◌, ◌<◌}
use native.Mathlib.Decide.{ℕ_discrete}
use native.Mathlib.Omega.{arith}
use lib.ListN.{length, get_or, set, replicate, length-append, length-set, length-replicate, get_or-replicate, get_or-append}
use lib.Seq.{get_or_at, get_or-set_same, get_or-set_other, ext_get_or}
use lib.Dec.{ltb}
use borrow.Author.Count.{below_more}
use borrow.Author.Tests.{ltb-true, ltb-false}
use Rattle.records.specs.Memory.{tabulate}

-- of n elements the first i are those of g, read with z for an element that is not there
pub record Filled {A : Type 0} (g : ℕ → A) (z : A) (n : ℕ) (ys : List A) (i : ℕ) : Type 0 where
  pub within : i ≤ n
  pub long : length ys ≡ n
  pub is : (k : ℕ) → k < i → get_or ys k z ≡ g k

module _ {A : Type 0} (g : ℕ → A) where
  pub tabulate_long : (n : ℕ) → length (tabulate n g) ≡ n
  unfolding tabulate
  tabulate_long zero = refl
  tabulate_long (suc n) = length-append (tabulate n g) (g n ∷ []) ∙ ap (◌+ 1) (tabulate_long n) ∙ omega arith

  pub tabulate_at : (n i : ℕ) (d : A) → i < n → get_or (tabulate n g) i d ≡ g i
  unfolding tabulate
  tabulate_at zero i d h = absurd (omega arith)
  tabulate_at (suc n) i d h = go (ℕ_discrete i n) (tabulate_at n i d)
    where
      go : Dec (i ≡ n) → (i < n → get_or (tabulate n g) i d ≡ g i) → get_or (tabulate n g ++ (g n ∷ [])) i d ≡ g i
      go (yes e) r = get_or_at (tabulate n g) (g n) [] d i (tabulate_long n ∙ sym e) ∙ ap g (sym e)
      go (no e) r =
          let l = tabulate_long n in
          get_or-append (tabulate n g) (g n ∷ []) d i (omega arith) ∙ r (omega arith)

  module _ (z : A) {n : ℕ} {ys : List A} where
    pub filled_none : ys ≡ replicate n z → Filled g z n ys 0
    filled_none e = record { within = omega arith; long = ap length e ∙ length-replicate n z; is = λ k h. absurd (omega arith) }

    pub filled_more : {i : ℕ} → Filled g z n ys i → i < n → Filled g z n (set ys i (g i)) (i + 1)
    filled_more {i} f h = record {
      within = omega arith;
      long = length-set ys i (g i) ∙ f.long;
      is = below_more (λ k. get_or (set ys i (g i)) k z ≡ g k) i
          (λ k l. get_or-set_other ys i k (g i) z (λ e. omega arith) ∙ f.is k l)
          (get_or-set_same ys i (g i) z (omega (arith, f.long)));
    }

    pub filled_all : {i : ℕ} → Filled g z n ys i → n ≤ i → ys ≡ tabulate n g
    filled_all f h =
        ext_get_or z ys (tabulate n g) (f.long ∙ sym (tabulate_long n))
        (λ k l. f.is k (omega (arith, f.long)) ∙ sym (tabulate_at n k z (omega (arith, f.long))))

-- and z stands behind them
pub record Front {A : Type 0} (g : ℕ → A) (z : A) (n : ℕ) (ys : List A) (i : ℕ) : Type 0 where
  pub filled : Filled g z n ys i
  pub rest : (k : ℕ) → i ≤ k → k < n → get_or ys k z ≡ z

module _ {A : Type 0} (g : ℕ → A) (z : A) {n : ℕ} {ys : List A} where
  pub front_none : ys ≡ replicate n z → Front g z n ys 0
  front_none e = record { filled = filled_none g z e; rest = λ k _ h. ap (λ l. get_or l k z) e ∙ get_or-replicate n k z z h }

  pub front_more : {i : ℕ} → Front g z n ys i → i < n → Front g z n (set ys i (g i)) (i + 1)
  front_more {i} f h = record {
    filled = filled_more g z f.filled h;
    rest = λ k l m. get_or-set_other ys i k (g i) z (λ e. omega arith) ∙ f.rest k (omega arith) m;
  }

  -- where all that is not filled in is z
  pub front_all : {i : ℕ} → Front g z n ys i → ((k : ℕ) → i ≤ k → k < n → g k ≡ z) → ys ≡ tabulate n g
  front_all {i} f blank =
      ext_get_or z ys (tabulate n g) (f.filled.long ∙ sym (tabulate_long g n))
      (λ k l. at k (omega (arith, f.filled.long)))
    where
      at : (k : ℕ) → k < n → get_or ys k z ≡ get_or (tabulate n g) k z
      at k h = go (ltb k i) refl ∙ sym (tabulate_at g n k z h)
        where
          go : (b : Bool) → ltb k i ≡ b → get_or ys k z ≡ g k
          go true l = f.filled.is k (ltb-true k i l)
          go false l = f.rest k (ltb-false k i l) h ∙ sym (blank k (ltb-false k i l) h)
