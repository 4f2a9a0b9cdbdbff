-- Laws of a list that is filled up to a length: the array that holds it.
-- Assumes nothing.
use mathlib.Core.Path.{◌≡◌, sym, ◌∙◌}
use mathlib.Core.List.{List, [], ◌∷◌, append_assoc}
use Prim.Native.Nat.{ℕ, suc, ◌+◌, ◌-◌, ◌≤◌, ◌<◌}
use native.Mathlib.Omega.{arith}
use native.Mathlib.Numerals.{add-one}
use lib.ListN.{length, get_or, take, set, replicate, length-append, length-replicate, get_or-append}
use lib.Seq.{take-append_seam, set-append_seam}
use Rattle.records.specs.Judge.{◌▷◌}
use Rattle.records.specs.Memory.{pad, tabulate}

module _ {ℓ} {A : Type ℓ} where
  pub length_▷ : (xs : List A) (x : A) → length (◌▷◌ xs x) ≡ length xs + 1
  length_▷ xs x = length-append xs (x ∷ [])

  module _ (n : ℕ) (z : A) (xs : List A) where
    pub pad_length : length xs ≤ n → length (pad n z xs) ≡ n
    unfolding pad
    pad_length h = simp (length-append, length-replicate) (omega arith)

    pub pad_take : take (length xs) (pad n z xs) ≡ xs
    unfolding pad
    pad_take = take-append_seam xs _

    pub pad_get_d : (i : ℕ) (d : A) → i < length xs → get_or (pad n z xs) i d ≡ get_or xs i d
    unfolding pad
    pad_get_d i d h = get_or-append xs _ d i h

    pub pad_set : (x : A) → length xs < n → set (pad n z xs) (length xs) x ≡ pad n z (◌▷◌ xs x)
    unfolding pad
    pad_set x h =
        let e : n - length xs ≡ suc (n - length (◌▷◌ xs x)) = omega (arith, length_▷ xs x) in
        rw e (set-append_seam xs z (replicate (n - length (◌▷◌ xs x)) z) x ∙ sym (append_assoc xs (x ∷ []) _))

    -- an array that holds xs, with one more stored behind them
    pub pad_fill : (x : A) {l : List A} {g : ℕ} → l ≡ pad n z xs → length xs ≡ g → g < n → set l g x ≡ pad n z (◌▷◌ xs x)
    pad_fill x e q h = rw (e, ← q) (pad_set x (omega arith))

-- one more of a table
pub tabulate_▷ : {A : Type 0} (n : ℕ) (f : ℕ → A) → tabulate (n + 1) f ≡ ◌▷◌ (tabulate n f) (f n)
unfolding tabulate
tabulate_▷ n f = rw add-one
