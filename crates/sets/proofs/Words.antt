-- Sets of any number of words: the lowest member, a set with an event put in, and one array of words for one set.
-- Assumes nothing.
use mathlib.Core.Path.{◌≡◌, refl, sym, ap, ap₂, ◌∙◌, subst, fun_ext}
use mathlib.Core.Bool.{true, false}
use mathlib.Core.List.{List}
use Prim.Native.Nat.{ℕ, zero, suc, ◌+◌, ◌-◌, ◌*◌, ◌/◌, ◌%◌, ◌^◌, ◌≤◌, ◌<◌, max}
use native.Mathlib.Nat.{div-eq_of_lt, lt_of_lt_of_le, one-mul, mod-eq_of_lt}
use native.Mathlib.Decide.{dec_lt, ℕ_discrete}
use native.Mathlib.Numerals.{add-one}
use native.Mathlib.Omega.{arith}
use lib.Dec.{eqb}
use lib.ListN.{length, get_or, set, replicate, get_or-eq_default}
use lib.Seq.{ext_get_or, get_or-set_same, get_or-set_other}
use lib.Arith.{lt-one}
use lib.Pow.{pow_mono, pow-lt, shr_lt}
use lib.Bits.{bit_xor, bit_or, differ}
use borrow.Author.Tests.{eq-eqb, ne_eqb}
use Rattle.paper.specs.Sets.{Set, none, put}
use Rattle.sets.specs.Words.{bit, set_of, room, Array, Trail, Lowest}
use Rattle.sets.proofs.Bit.{bit_none, bit_shift, bit_own, bit_other, bit_xor_lem, bit_or_lem, bit_lt, bit_suc, bit_zero}

-- event j of word k
pub set_in : (ws : List ℕ) (k j : ℕ) → j < 64 → set_of ws (k * 64 + j) ≡ eqb (bit (get_or ws k 0) j) 1
unfolding set_of
set_in ws k j h = ap₂ (λ (q r : ℕ). eqb (bit (get_or ws q 0) r) 1) (omega arith) (omega arith)

-- with the bit that was read
pub set_bit : (ws : List ℕ) (k j b : ℕ) → j < 64 → bit (get_or ws k 0) j ≡ b → set_of ws (k * 64 + j) ≡ eqb b 1
set_bit ws k j b h e = set_in ws k j h ∙ ap (λ (n : ℕ). eqb n 1) e

-- what holds of each event of the words before word k, and of the first t of word k, holds of each below k * 64 + t
pub blocks : (P : ℕ → Type 0) (k t : ℕ) → ((j : ℕ) → j < k * 64 → P j) → ((r : ℕ) → r < t → P (k * 64 + r)) → (j : ℕ) → j < k * 64 + t → P j
blocks P k t lo hi j h = go (dec_lt j (k * 64))
  where
    go : Dec (j < k * 64) → P j
    go (yes l) = lo j l
    go (no n) =
        let e : k * 64 + (j - k * 64) ≡ j = omega arith in
        subst P e (hi (j - k * 64) (omega arith))

-- the same to the end of word k
pub blocks_more : (P : ℕ → Type 0) (k : ℕ) → ((j : ℕ) → j < k * 64 → P j) → ((r : ℕ) → r < 64 → P (k * 64 + r)) → (j : ℕ) → j < (k + 1) * 64 → P j
blocks_more P k lo hi j h = blocks P k 64 lo hi j (omega arith)

-- beyond the words there is no member
pub beyond_room : (ws : List ℕ) (i : ℕ) → room ws ≤ i → set_of ws i ≡ false
unfolding set_of
beyond_room ws i h = ap (λ (b : ℕ). eqb b 1) (ap (λ (w : ℕ). bit w (i % 64)) (get_or-eq_default ws 0 (omega arith)) ∙ bit_none (i % 64))

-- ---- the lowest member

-- none, where the search starts beyond the words
pub low_end : (ws : List ℕ) (i : ℕ) → room ws ≤ i → Lowest (set_of ws) (room ws) i (room ws)
low_end ws i h = record { within = omega arith; above = λ l. absurd (omega arith); is = λ l. absurd (omega arith); clear = λ j p q. absurd (omega arith) }

-- of word k, where no member stands before the word
pub found_low : (ws : List ℕ) (i k t : ℕ) → k < length ws → i ≤ k * 64 → ((j : ℕ) → j < k * 64 → i ≤ j → set_of ws j ≡ false) → Trail (get_or ws k 0) 64 t → Lowest (set_of ws) (room ws) i (k * 64 + t)
found_low ws i k t l h clear r =
    let b = r.below in
    record {
      within = omega arith;
      above = λ _. omega arith;
      is = λ _. set_bit ws k t 1 b r.set;
      clear = λ j p q. blocks (λ (n : ℕ). i ≤ n → set_of ws n ≡ false) k t clear (λ s g _. set_bit ws k s 0 (omega arith) (r.clear s g)) j q p;
    }

-- of the words up to word k there is none, where that word is 0
pub none_low : (ws : List ℕ) (i k : ℕ) → get_or ws k 0 ≡ 0 → ((j : ℕ) → j < k * 64 → i ≤ j → set_of ws j ≡ false) → (j : ℕ) → j < (k + 1) * 64 → i ≤ j → set_of ws j ≡ false
none_low ws i k z clear = blocks_more (λ (j : ℕ). i ≤ j → set_of ws j ≡ false) k clear (λ r h _. set_bit ws k r 0 h (ap (λ (n : ℕ). bit n r) z ∙ bit_none r))

-- a bit beyond a number's length is 0, so a set bit of a word stands in the word
in_word : (w j : ℕ) → w < 2 ^ 64 → bit w j ≡ 1 → j < 64
unfolding bit
in_word w j f e = go (dec_lt j 64)
  where
    go : Dec (j < 64) → j < 64
    go (yes h) = h
    go (no h) =
        let l : 64 ≤ j = omega arith in
        let high : w / 2 ^ j % 2 ≡ 0 = ap (λ (n : ℕ). n % 2) (div-eq_of_lt (lt_of_lt_of_le f (pow_mono l))) in
        absurd (omega arith)

-- event i + u, in the word of event i
module _ (ws : List ℕ) (i : ℕ) where
  abbrev here : ℕ
  here = get_or ws (i / 64) 0

  set_mid : (u b : ℕ) → i % 64 + u < 64 → bit (here / 2 ^ (i % 64)) u ≡ b → set_of ws (i + u) ≡ eqb b 1
  set_mid u b h e =
      let place : i / 64 * 64 + (i % 64 + u) ≡ i + u = omega arith in
      ap (set_of ws) (sym place) ∙ set_bit ws (i / 64) (i % 64 + u) b h (sym (bit_shift here (i % 64) u) ∙ e)

  -- the lowest of a word's bits from that of event i on
  pub found_mid : {t : ℕ} → i / 64 < length ws → here < 2 ^ 64 → Trail (here / 2 ^ (i % 64)) 64 t → Lowest (set_of ws) (room ws) i (i + t)
  found_mid {t} l f r =
      let b : i % 64 + t < 64 = in_word here (i % 64 + t) f (sym (bit_shift here (i % 64) t) ∙ r.set) in
      record {
        within = omega arith;
        above = λ _. omega arith;
        is = λ _. set_mid t 1 b r.set;
        clear = λ j p q. let at : i + (j - i) ≡ j = omega arith in ap (set_of ws) (sym at) ∙ set_mid (j - i) 0 (omega arith) (r.clear (j - i) (omega arith));
      }

  -- they are all 0, so the search goes on at the next word
  pub found_next : {t : ℕ} → i / 64 < length ws → here / 2 ^ (i % 64) ≡ 0 → Lowest (set_of ws) (room ws) ((i / 64 + 1) * 64) t → Lowest (set_of ws) (room ws) i t
  found_next {t} l z r = record {
    within = r.within;
    above = λ h. let a = r.above h in omega arith;
    is = r.is;
    clear = λ j p q. go j p q (dec_lt j ((i / 64 + 1) * 64));
  }
    where
      go : (j : ℕ) → i ≤ j → j < t → Dec (j < (i / 64 + 1) * 64) → set_of ws j ≡ false
      go j p q (yes h) =
          let at : i + (j - i) ≡ j = omega arith in
          ap (set_of ws) (sym at) ∙ set_mid (j - i) 0 (omega arith) (ap (λ (n : ℕ). bit n (j - i)) z ∙ bit_none (j - i))
      go j p q (no h) = r.clear j (omega arith) q

-- the search from the next event on goes on
pub lowest_on : {S : Set} {n i r : ℕ} → Lowest S n (i + 1) r → i < n → i < r
lowest_on {n = n} {i} {r} lo h = go (dec_lt r n)
  where
    go : Dec (r < n) → i < r
    go (yes l) = let a = lo.above l in omega arith
    go (no l) = omega arith

-- ---- a set tells its bits

-- a bit is told by whether it is 1
same_bit : (x y : ℕ) → x < 2 → y < 2 → eqb x 1 ≡ eqb y 1 → x ≡ y
same_bit zero zero h k e = refl
same_bit zero (suc zero) h k e = absurd (let z : ◌≡◌ {A = ℕ} 0 1 = cc in omega arith)
same_bit (suc zero) zero h k e = absurd (let z : ◌≡◌ {A = ℕ} 0 1 = cc in omega arith)
same_bit (suc zero) (suc zero) h k e = refl
same_bit (suc (suc x)) y h k e = absurd (omega arith)
same_bit zero (suc (suc y)) h k e = absurd (omega arith)
same_bit (suc zero) (suc (suc y)) h k e = absurd (omega arith)

pub bits_same : (a b : List ℕ) (k j : ℕ) → j < 64 → set_of a (k * 64 + j) ≡ set_of b (k * 64 + j) → bit (get_or a k 0) j ≡ bit (get_or b k 0) j
bits_same a b k j h e = same_bit (bit (get_or a k 0) j) (bit (get_or b k 0) j) (bit_lt _ j) (bit_lt _ j) (sym (set_in a k j h) ∙ e ∙ set_in b k j h)

-- ---- a set with an event put in or taken out

-- a word stored where only the event's bit differs
put_word : (ws : List ℕ) (i u v : ℕ) → i < room ws → bit u (i % 64) ≡ v
    → ((r : ℕ) → (r ≡ i % 64 → ⊥) → bit u r ≡ bit (get_or ws (i / 64) 0) r) → set_of (set ws (i / 64) u) ≡ put i (eqb v 1) (set_of ws)
unfolding set_of
put_word ws i u v h e o = fun_ext (λ j. go j (ℕ_discrete j i) (ℕ_discrete (j / 64) (i / 64)))
  where
    stored : get_or (set ws (i / 64) u) (i / 64) 0 ≡ u
    stored = get_or-set_same ws (i / 64) u 0 (omega arith)

    go : (j : ℕ) → Dec (j ≡ i) → Dec (j / 64 ≡ i / 64) → set_of (set ws (i / 64) u) j ≡ put i (eqb v 1) (set_of ws) j
    go j (yes q) p = rw (eq-eqb j i q) (ap (λ (x : ℕ). eqb (bit (get_or (set ws (i / 64) u) (x / 64) 0) (x % 64)) 1) q ∙ ap (λ (n : ℕ). eqb (bit n (i % 64)) 1) stored ∙ ap (λ (n : ℕ). eqb n 1) e)
    go j (no q) (yes p) =
        rw (ne_eqb j i q) (ap (λ (x : ℕ). eqb (bit (get_or (set ws (i / 64) u) x 0) (j % 64)) 1) p
        ∙ ap (λ (n : ℕ). eqb n 1) (ap (λ (n : ℕ). bit n (j % 64)) stored ∙ o (j % 64) (λ z. q (omega arith)))
        ∙ ap (λ (x : ℕ). eqb (bit (get_or ws x 0) (j % 64)) 1) (sym p))
    go j (no q) (no p) = rw (ne_eqb j i q) (ap (λ (n : ℕ). eqb (bit n (j % 64)) 1) (get_or-set_other ws (i / 64) (j / 64) u 0 p))

-- one bit, as the code shifts it
one_bit : (t : ℕ) → t < 64 → (1 * 2 ^ t) % 2 ^ 64 ≡ 2 ^ t
one_bit t f = ap (λ (n : ℕ). n % 2 ^ 64) (one-mul (2 ^ t)) ∙ mod-eq_of_lt (pow-lt f)

bit_one : (t : ℕ) → t < 64 → bit ((1 * 2 ^ t) % 2 ^ 64) t ≡ 1
bit_one t f = ap (λ (n : ℕ). bit n t) (one_bit t f) ∙ bit_own t

bit_rest : (t r : ℕ) → t < 64 → (r ≡ t → ⊥) → bit ((1 * 2 ^ t) % 2 ^ 64) r ≡ 0
bit_rest t r f n = ap (λ (q : ℕ). bit q r) (one_bit t f) ∙ bit_other t r n

-- `|` with the bit
pub put_in : (ws : List ℕ) (i : ℕ) → i < room ws → set_of (set ws (i / 64) (bit_or (get_or ws (i / 64) 0) ((1 * 2 ^ (i % 64)) % 2 ^ 64))) ≡ put i true (set_of ws)
put_in ws i h =
    let w = get_or ws (i / 64) 0 in
    let v = (1 * 2 ^ (i % 64)) % 2 ^ 64 in
    let f : i % 64 < 64 = omega arith in
    let low = bit_lt w (i % 64) in
    put_word ws i (bit_or w v) 1 h
    (bit_or_lem w v (i % 64) ∙ max_one (bit w (i % 64)) (bit v (i % 64)) low (bit_one (i % 64) f))
    (λ r n. bit_or_lem w v r ∙ max_none (bit w r) (bit v r) (bit_rest (i % 64) r f n))
  where
    max_one : (x y : ℕ) → x < 2 → y ≡ 1 → max x y ≡ 1
    max_one x y h e = omega arith

    max_none : (x y : ℕ) → y ≡ 0 → max x y ≡ x
    max_none x y e = omega arith

-- `^` with a bit that is set clears it, and leaves the others
differ_none : (x y : ℕ) → y ≡ 0 → differ x y ≡ x
differ_none zero y e = e
differ_none (suc x) zero e = refl
differ_none (suc x) (suc y) e = absurd (omega arith)

differ_self : (x : ℕ) → differ x x ≡ 0
differ_self zero = refl
differ_self (suc x) = differ_self x

clear_own : (w t : ℕ) → t < 64 → bit w t ≡ 1 → bit (bit_xor w ((1 * 2 ^ t) % 2 ^ 64)) t ≡ 0
clear_own w t f e = bit_xor_lem w ((1 * 2 ^ t) % 2 ^ 64) t ∙ ap₂ differ e (bit_one t f) ∙ differ_self 1

clear_other : (w t r : ℕ) → t < 64 → (r ≡ t → ⊥) → bit (bit_xor w ((1 * 2 ^ t) % 2 ^ 64)) r ≡ bit w r
clear_other w t r f n = bit_xor_lem w ((1 * 2 ^ t) % 2 ^ 64) r ∙ differ_none (bit w r) (bit ((1 * 2 ^ t) % 2 ^ 64) r) (bit_rest t r f n)

pub take_out : (ws : List ℕ) (i : ℕ) → i < room ws → set_of ws i ≡ true → set_of (set ws (i / 64) (bit_xor (get_or ws (i / 64) 0) ((1 * 2 ^ (i % 64)) % 2 ^ 64))) ≡ put i false (set_of ws)
unfolding set_of
take_out ws i h e =
    let w = get_or ws (i / 64) 0 in
    let f : i % 64 < 64 = omega arith in
    put_word ws i (bit_xor w ((1 * 2 ^ (i % 64)) % 2 ^ 64)) 0 h
    (clear_own w (i % 64) f (same_bit (bit w (i % 64)) 1 (bit_lt w (i % 64)) (omega arith) e))
    (λ r n. clear_other w (i % 64) r f n)

-- ---- the empty set

get_d_zeros : (n k : ℕ) → ◌≡◌ {A = ℕ} (get_or (replicate n 0) k 0) 0
get_d_zeros zero k = refl
get_d_zeros (suc n) zero = refl
get_d_zeros (suc n) (suc k) = get_d_zeros n k

pub empty_none : (n : ℕ) → set_of (replicate n 0) ≡ none
unfolding set_of
empty_none n = fun_ext (λ i. ap (λ (b : ℕ). eqb b 1) (ap (λ (w : ℕ). bit w (i % 64)) (get_d_zeros n (i / 64)) ∙ bit_none (i % 64)))

-- ---- words that denote one set are the same

bits_tell : (d x y : ℕ) → x < 2 ^ d → y < 2 ^ d → ((j : ℕ) → j < d → bit x j ≡ bit y j) → x ≡ y
bits_tell zero x y h k e = lt-one h ∙ sym (lt-one k)
bits_tell (suc d) x y h k e =
    let low : x % 2 ≡ y % 2 = sym (bit_zero x) ∙ e 0 (omega arith) ∙ bit_zero y in
    let high : x / 2 ≡ y / 2 = bits_tell d (x / 2) (y / 2) (half h) (half k) (λ j l. sym (bit_suc x j) ∙ e (suc j) (omega arith) ∙ bit_suc y j) in
    omega arith
  where
    half : {w : ℕ} → w < 2 ^ suc d → w / 2 < 2 ^ d
    half {w} q = shr_lt d 1 (subst (λ (n : ℕ). w < 2 ^ n) (sym (add-one d)) q)

pub words_same : {k : ℕ} {a b : List ℕ} → Array k a → Array k b → set_of a ≡ set_of b → a ≡ b
words_same {a = a} {b = b} p q e = ext_get_or 0 a b (p.long ∙ sym q.long)
    (λ i h. bits_tell 64 (get_or a i 0) (get_or b i 0) (p.fit i) (q.fit i) (λ j l. bits_same a b i j l (ap (λ S. S (i * 64 + j)) e)))
