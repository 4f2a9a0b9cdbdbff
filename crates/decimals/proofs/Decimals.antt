-- The digits of a number, written from the last to the first; and how many there are.
-- Assumes nothing.
use mathlib.Core.Path.{◌≡◌, refl, sym, ap, ap₂, ◌∙◌}
use mathlib.Core.Bool.{Bool, true, false, cond}
use mathlib.Core.List.{List, [], ◌∷◌, ◌++◌, append_assoc, append-nil}
use Prim.Native.Nat.{ℕ, zero, suc, ◌+◌, ◌-◌, ◌/◌, ◌%◌, ◌^◌, ◌≤◌, ◌<◌}
use native.Mathlib.Omega.{arith}
use native.Mathlib.Nat.{pow-zero, pow-suc}
use lib.Dec.{ltb}
use lib.ListN.{length, set, drop, length-append, length-set, drop_of_length-le}
use lib.Seq.{drop-cons, drop-set-lt, get_or-set_same}
use borrow.Author.Tests.{lt-ltb, le-ltb, ltb-true, ltb-false}
use Rattle.paper.specs.Exporting.{digits_of, decimal}
use Rattle.decimals.specs.Places.{Ends}

-- one digit
short_is : (K n : ℕ) → n < 10 → digits_of (suc K) n ≡ (48 + n) ∷ []
short_is K n h = ap (λ (b : Bool). cond b ((48 + n) ∷ []) (digits_of K (n / 10) ++ ((48 + n % 10) ∷ []))) (lt-ltb n 10 h)

-- more than one
long_is : (K n : ℕ) → 10 ≤ n → digits_of (suc K) n ≡ digits_of K (n / 10) ++ ((48 + n % 10) ∷ [])
long_is K n h = ap (λ (b : Bool). cond b ((48 + n) ∷ []) (digits_of K (n / 10) ++ ((48 + n % 10) ∷ []))) (le-ltb n 10 h)

-- ---- the loop

-- a store before what stands from a place on
set_before : (l : List ℕ) (q x : ℕ) → q < length l → drop q (set l q x) ≡ x ∷ drop (suc q) l
set_before l q x h =
    drop-cons (set l q x) q 0 (let e = length-set l q x in omega arith)
    ∙ ap₂ (λ (y : ℕ) (r : List ℕ). y ∷ r) (get_or-set_same l q x 0 h) (drop-set-lt (suc q) l q x (omega arith))

-- the digits from place `at` on are written, those of `rest` are not
pub record Half (n : ℕ) (room : List ℕ) (rest at : ℕ) : Type 0 where
  pub long : length room ≡ 20
  pub some : 1 ≤ at
  pub low : at ≤ 20
  pub small : rest < 10 ^ at
  pub is : decimal n ≡ digits_of at rest ++ drop at room

pub half_none : (n : ℕ) (room : List ℕ) → length room ≡ 20 → n < 18446744073709551616 → Half n room n 20
unfolding decimal
half_none n room l h =
    let e : 10 ^ 20 ≡ 100000000000000000000 = refl in
    let z : drop 20 room ≡ [] = drop_of_length-le room {i = 20} (omega arith) in
    record { long = l; some = omega arith; low = omega arith; small = omega arith; is = sym (ap (λ (r : List ℕ). digits_of 20 n ++ r) z ∙ append-nil (digits_of 20 n)) }

-- more than one digit is left only where there is room for two
two_left : (at rest : ℕ) → 1 ≤ at → rest < 10 ^ at → 10 ≤ rest → 2 ≤ at
two_left zero rest s h t = absurd (omega arith)
two_left (suc zero) rest s h t = let p = pow-suc 10 0 in let z = pow-zero 10 in absurd (omega arith)
two_left (suc (suc k)) rest s h t = omega arith

tenth_small : (q rest : ℕ) → rest < 10 ^ suc q → rest / 10 < 10 ^ q
tenth_small q rest h = let p = pow-suc 10 q in omega arith

module _ {n : ℕ} {room : List ℕ} {rest at : ℕ} (v : Half n room rest at) where
  -- at is one more than q
  step : (q : ℕ) → at ≡ suc q → 10 ≤ rest → decimal n ≡ digits_of q (rest / 10) ++ drop q (set room q (48 + rest % 10))
  step q e t =
      let l = v.long in
      let w = v.low in
      v.is
      ∙ ap (λ (k : ℕ). digits_of k rest ++ drop k room) e
      ∙ ap (λ (r : List ℕ). r ++ drop (suc q) room) (long_is q rest t)
      ∙ append_assoc (digits_of q (rest / 10)) ((48 + rest % 10) ∷ []) (drop (suc q) room)
      ∙ ap (λ (r : List ℕ). digits_of q (rest / 10) ++ r) (sym (set_before room q (48 + rest % 10) (omega arith)))

  last : (q : ℕ) → at ≡ suc q → rest < 10 → drop q (set room q (48 + rest)) ≡ decimal n
  last q e t =
      let l = v.long in
      let w = v.low in
      set_before room q (48 + rest) (omega arith)
      ∙ sym (v.is ∙ ap (λ (k : ℕ). digits_of k rest ++ drop k room) e ∙ ap (λ (r : List ℕ). r ++ drop (suc q) room) (short_is q rest t))

  pub half_more : 10 ≤ rest → Half n (set room (at - 1) (48 + rest % 10)) (rest / 10) (at - 1)
  half_more t =
      let two = two_left at rest v.some v.small t in
      let e : at ≡ suc (at - 1) = omega arith in
      let small : rest < 10 ^ suc (at - 1) = rw (← e) v.small in
      let w = v.low in
      record {
        long = length-set room (at - 1) (48 + rest % 10) ∙ v.long;
        some = omega arith;
        low = omega arith;
        small = tenth_small (at - 1) rest small;
        is = step (at - 1) e t;
      }

  pub half_end : rest < 10 → Ends (at - 1) (set room (at - 1) (48 + rest)) (decimal n)
  half_end t =
      let s = v.some in
      let w = v.low in
      let l = length-set room (at - 1) (48 + rest) in
      let m = v.long in
      record { inside = omega arith; is = last (at - 1) (omega arith) t }

-- ---- how many there are

module _ (K n : ℕ) where
  one_or_more : {m : ℕ} → 1 ≤ m → (10 ≤ n → length (digits_of K (n / 10)) + 1 ≤ m) → length (digits_of (suc K) n) ≤ m
  one_or_more {m} one more = go (ltb n 10) refl
    where
      go : (b : Bool) → ltb n 10 ≡ b → length (digits_of (suc K) n) ≤ m
      go true e = let l = ap length (short_is K n (ltb-true n 10 e)) in omega arith
      go false e =
          let t = ltb-false n 10 e in
          let l = ap length (long_is K n t) in
          let a = length-append (digits_of K (n / 10)) ((48 + n % 10) ∷ []) in
          let w = more t in
          omega arith

at_most : (K n : ℕ) → length (digits_of K n) ≤ K
at_most zero n = omega arith
at_most (suc K) n = one_or_more K n (omega arith) (λ _. let r = at_most K (n / 10) in omega arith)

few : (K k n : ℕ) → n < 10 ^ suc k → length (digits_of K n) ≤ suc k
few zero k n h = omega arith
few (suc K) zero n h = let p = pow-suc 10 0 in let z = pow-zero 10 in one_or_more K n (omega arith) (λ t. absurd (omega arith))
few (suc K) (suc k) n h = let p = pow-suc 10 (suc k) in one_or_more K n (omega arith) (λ t. let r = few K k (n / 10) (omega arith) in omega arith)

-- no number has more than 20, a byte at most 3, and two bytes at most 5
pub decimal_long : (n : ℕ) → length (decimal n) ≤ 20
unfolding decimal
decimal_long n = at_most 20 n

pub byte_long : (n : ℕ) → n < 256 → length (decimal n) ≤ 3
unfolding decimal
byte_long n h = let t : 10 ^ 3 ≡ 1000 = refl in few 20 2 n (omega arith)

pub two_long : (n : ℕ) → n < 65536 → length (decimal n) ≤ 5
unfolding decimal
two_long n h = let t : 10 ^ 5 ≡ 100000 = refl in few 20 4 n (omega arith)
