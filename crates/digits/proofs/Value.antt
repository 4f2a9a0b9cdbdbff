-- Digits and the number that they stand for.
-- Assumes nothing.
use mathlib.Core.Path.{◌≡◌, refl, sym, ap, ◌∙◌}
use mathlib.Core.List.{List, [], ◌∷◌, ◌++◌}
use Prim.Native.Nat.{ℕ, zero, suc, ◌+◌, ◌*◌, ◌^◌, ◌≤◌, ◌<◌}
use native.Mathlib.Nat.{pow-zero, pow-suc, pow-succ', mul-le-mul_left, mul-suc, mul-pos}
use native.Mathlib.Omega.{arith}
use lib.ListN.{length, get_or, set, take, drop}
use lib.Seq.{take-nil, take-suc, take-suc-set, length-take-le}
use Rattle.digits.specs.Digits.{value}

module _ (D : ℕ) where
  -- one digit more, on top
  pub value_snoc : (l : List ℕ) (d : ℕ) → value D (l ++ (d ∷ [])) ≡ value D l + D ^ length l * d
  value_snoc [] d = rw (pow-zero D) (omega arith)
  value_snoc (x ∷ l) d = rw (value_snoc l d, pow-succ' D (length l)) (omega arith)

  -- zeros on top stand for nothing
  pub value_zeros : (l : List ℕ) → ((k : ℕ) → get_or l k 0 ≡ 0) → value D l ≡ 0
  value_zeros [] h = refl
  value_zeros (x ∷ l) h = let a = h 0 in let b = value_zeros l (λ k. h (suc k)) in rw b (omega arith)

  pub value_take : (l : List ℕ) (m : ℕ) → ((k : ℕ) → m ≤ k → get_or l k 0 ≡ 0) → value D l ≡ value D (take m l)
  value_take [] m h = ap (value D) (sym (take-nil m))
  value_take (x ∷ l) zero h = value_zeros (x ∷ l) (λ k. h k (omega arith))
  value_take (x ∷ l) (suc m) h = ap (λ v. x + D * v) (value_take l m (λ k g. h (suc k) (omega arith)))

  -- the digit at place k
  pub value_next : (l : List ℕ) (k : ℕ) → k < length l → value D (take (suc k) l) ≡ value D (take k l) + D ^ k * get_or l k 0
  value_next l k h =
      let q : length (take k l) ≡ k = length-take-le k l (omega arith) in
      ap (value D) (take-suc l k 0 h) ∙ value_snoc (take k l) (get_or l k 0) ∙ ap (λ j. value D (take k l) + D ^ j * get_or l k 0) q

  pub value_set : (l : List ℕ) (k d : ℕ) → k < length l → value D (take (suc k) (set l k d)) ≡ value D (take k l) + D ^ k * d
  value_set l k d h =
      let q : length (take k l) ≡ k = length-take-le k l (omega arith) in
      ap (value D) (take-suc-set l k d h) ∙ value_snoc (take k l) d ∙ ap (λ j. value D (take k l) + D ^ j * d) q

  -- the low digits and the others
  pub value_split : (l : List ℕ) (k : ℕ) → value D l ≡ value D (take k l) + D ^ k * value D (drop k l)
  value_split l zero = rw (pow-zero D) (omega arith)
  value_split [] (suc k) = omega arith
  value_split (x ∷ l) (suc k) = rw (pow-succ' D k) (omega (arith, ap (λ j. D * j) (value_split l k)))

  pub value_drop : (l : List ℕ) (k : ℕ) → value D (drop k l) ≡ get_or l k 0 + D * value D (drop (suc k) l)
  value_drop [] zero = omega arith
  value_drop [] (suc k) = omega arith
  value_drop (x ∷ l) zero = refl
  value_drop (x ∷ l) (suc k) = value_drop l k

  -- digits below D stay below the next power
  below_step : (x v p : ℕ) → x < D → v < p → x + D * v < D * p
  below_step x v p h k = omega (arith, mul-le-mul_left D k, mul-suc D v)

  positive : 0 < D → (k : ℕ) → 0 < D ^ k
  positive h zero = rw (pow-zero D) (omega arith)
  positive h (suc k) = rw (pow-suc D k) (mul-pos (positive h k) h)

  pub value_below : (l : List ℕ) (k : ℕ) → ((j : ℕ) → get_or l j 0 < D) → value D (take k l) < D ^ k
  value_below l zero h = rw (pow-zero D) (omega arith)
  value_below [] (suc k) h = positive (h 0) (suc k)
  value_below (x ∷ l) (suc k) h = rw (pow-succ' D k) (below_step x (value D (take k l)) (D ^ k) (h 0) (value_below l k (λ j. h (suc j))))
