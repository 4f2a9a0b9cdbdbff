-- Decimals are numbers of the grammar, and e0, g0 and so on are names.
-- Assumes nothing.
use mathlib.Core.Path.{◌≡◌, refl, ap₂}
use mathlib.Core.Bool.{Bool, true, false, cond, ◌&&◌, ◌||◌, false≢true}
use mathlib.Core.List.{List, [], ◌∷◌, ◌++◌}
use Prim.Native.Nat.{ℕ, zero, suc, ◌+◌, ◌/◌, ◌%◌, ◌<◌, ◌≤◌}
use native.Mathlib.Omega.{arith}
use borrow.Author.Tests.{ltb-true, ltb-false, lt-ltb, le-leb, leb-true}
use lib.Dec.{ltb, leb}
use lib.ListN.{length, length-append}
use Rattle.paper.specs.Lists.{every}
use Rattle.paper.specs.Bytes.{letter, digit, letter_or_digit, same}
use Rattle.paper.specs.Grammar.{is_name, is_number, reserved, begins_with}
use Rattle.paper.specs.Exporting.{digits_of, decimal, event_name, gate_name}
use Rattle.meaning.proofs.Decimals.{tens, small}

-- ---- every byte of a list

pub every_append : (p : ℕ → Bool) (a b : List ℕ) → every p a ≡ true → every p b ≡ true → every p (a ++ b) ≡ true
every_append p [] b h k = k
every_append p (x ∷ a) b h k = go (p x) h (every_append p a b)
  where
    go : (t : Bool) → (t && every p a) ≡ true → (every p a ≡ true → every p b ≡ true → every p (a ++ b) ≡ true) → (t && every p (a ++ b)) ≡ true
    go true q r = r q k
    go false q r = absurd (false≢true q)

every_more : (p q : ℕ → Bool) → ((b : ℕ) → p b ≡ true → q b ≡ true) → (l : List ℕ) → every p l ≡ true → every q l ≡ true
every_more p q f [] h = refl
every_more p q f (b ∷ l) h = go (p b) refl h (every_more p q f l)
  where
    go : (t : Bool) → p b ≡ t → (t && every p l) ≡ true → (every p l ≡ true → every q l ≡ true) → (q b && every q l) ≡ true
    go true e k r = ap₂ ◌&&◌ (f b e) (r k)
    go false e k r = absurd (false≢true k)

-- ---- digits

digit_is : (b : ℕ) → 48 ≤ b → b ≤ 57 → digit b ≡ true
unfolding digit
digit_is b l h = rw (le-leb 48 b l, le-leb b 57 h) refl

digit_low : (b : ℕ) → digit b ≡ true → leb 32 b ≡ true
unfolding digit
digit_low b h = go (leb 48 b) refl h
  where
    go : (t : Bool) → leb 48 b ≡ t → (t && leb b 57) ≡ true → leb 32 b ≡ true
    go true e k = let l = leb-true 48 b e in le-leb 32 b (omega arith)
    go false e k = absurd (false≢true k)

digit_in_name : (b : ℕ) → digit b ≡ true → letter_or_digit b ≡ true
unfolding letter_or_digit
digit_in_name b h = go (letter b)
  where
    go : (t : Bool) → (t || digit b) ≡ true
    go true = refl
    go false = h

digits_all : (k n : ℕ) → every digit (digits_of k n) ≡ true
digits_all zero n = refl
digits_all (suc k) n = go (ltb n 10) refl (digits_all k (n / 10))
  where
    go : (t : Bool) → ltb n 10 ≡ t → every digit (digits_of k (n / 10)) ≡ true → every digit (cond t ((48 + n) ∷ []) (digits_of k (n / 10) ++ ((48 + n % 10) ∷ []))) ≡ true
    go true e r = let l = ltb-true n 10 e in rw (digit_is (48 + n) (omega arith) (omega arith)) refl
    go false e r = every_append digit (digits_of k (n / 10)) ((48 + n % 10) ∷ []) r (rw (digit_is (48 + n % 10) (omega arith) (omega arith)) refl)

pub decimal_digits : (n : ℕ) → every digit (decimal n) ≡ true
unfolding decimal
decimal_digits n = digits_all 20 n

-- ---- no leading zero

abbrev First : List ℕ → Type 0
First [] = ⊥
First (d ∷ l) = 49 ≤ d

first_append : (a b : List ℕ) → First a → First (a ++ b)
first_append [] b f = absurd f
first_append (d ∷ a) b f = f

digits_first : (k n : ℕ) → 1 ≤ n → n < tens k → First (digits_of k n)
digits_first zero n l h = omega arith
digits_first (suc k) n l h = go (ltb n 10) refl (digits_first k (n / 10))
  where
    go : (t : Bool) → ltb n 10 ≡ t → (1 ≤ n / 10 → n / 10 < tens k → First (digits_of k (n / 10))) → First (cond t ((48 + n) ∷ []) (digits_of k (n / 10) ++ ((48 + n % 10) ∷ [])))
    go true e r = omega arith
    go false e r = let m = ltb-false n 10 e in first_append (digits_of k (n / 10)) ((48 + n % 10) ∷ []) (r (omega arith) (omega arith))

number_first : (l : List ℕ) → First l → every digit l ≡ true → is_number l ≡ true
unfolding is_number
number_first [] f h = absurd f
number_first (d ∷ l) f h = rw (h, le-leb 49 d f) refl

pub decimal_number : (n : ℕ) → n < small → is_number (decimal n) ≡ true
unfolding decimal is_number digit same
decimal_number zero h = refl
decimal_number (suc n) h = number_first (digits_of 20 (suc n)) (digits_first 20 (suc n) (omega arith) h) (digits_all 20 (suc n))

-- ---- few digits

digits_few : (k j n : ℕ) → n < tens (suc j) → length (digits_of k n) ≤ suc j
digits_few zero j n h = omega arith
digits_few (suc k) zero n h = let l : n < 10 = omega arith in rw (lt-ltb n 10 l) (omega arith)
digits_few (suc k) (suc j) n h = go (ltb n 10) refl (digits_few k j (n / 10))
  where
    go : (t : Bool) → ltb n 10 ≡ t → (n / 10 < tens (suc j) → length (digits_of k (n / 10)) ≤ suc j) → length (cond t ((48 + n) ∷ []) (digits_of k (n / 10) ++ ((48 + n % 10) ∷ []))) ≤ suc (suc j)
    go true e r = omega arith
    go false e r = let a = r (omega arith) in let b = length-append (digits_of k (n / 10)) ((48 + n % 10) ∷ []) in omega arith

-- a number that fits a name with its letter: a name has 12 bytes at most, and no tree has so many events or gates
abbrev pub nameable : ℕ
nameable = 10_000

decimal_few : (n : ℕ) → n < nameable → length (decimal n) ≤ 4
unfolding decimal
decimal_few n h = digits_few 20 3 n h

-- ---- names

pub event_is_name : (e : ℕ) → e < nameable → is_name (event_name e) ≡ true
unfolding is_name event_name begins_with letter letter_or_digit digit reserved same
event_is_name e h = name (decimal e) (every_more digit letter_or_digit digit_in_name (decimal e) (decimal_digits e)) (decimal_few e h)
  where
    name : (l : List ℕ) → every letter_or_digit l ≡ true → length l ≤ 4 → is_name (101 ∷ l) ≡ true
    name l a b = rw (a, le-leb (suc (length l)) 12 (omega arith)) refl

pub gate_is_name : (g : ℕ) → g < nameable → is_name (gate_name g) ≡ true
unfolding is_name gate_name begins_with letter letter_or_digit digit reserved same
gate_is_name g h = name (decimal g) (every_more digit letter_or_digit digit_in_name (decimal g) (decimal_digits g)) (decimal_few g h)
  where
    name : (l : List ℕ) → every letter_or_digit l ≡ true → length l ≤ 4 → is_name (103 ∷ l) ≡ true
    name l a b = rw (a, le-leb (suc (length l)) 12 (omega arith)) refl

-- ---- no byte below a blank: no line feed

pub decimal_plain : (n : ℕ) → every (leb 32) (decimal n) ≡ true
decimal_plain n = every_more digit (leb 32) digit_low (decimal n) (decimal_digits n)

pub event_plain : (e : ℕ) → every (leb 32) (event_name e) ≡ true
unfolding event_name
event_plain e = decimal_plain e

pub gate_plain : (g : ℕ) → every (leb 32) (gate_name g) ≡ true
unfolding gate_name
gate_plain g = decimal_plain g
