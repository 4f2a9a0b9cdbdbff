-- The number of members, by the ones of each word; and their bytes, by the number below event 256 and the number of all.
-- Assumes nothing.
use mathlib.Core.Path.{◌≡◌, refl, sym, ap, ap₂, ◌∙◌, subst}
use mathlib.Core.Bool.{Bool, true, false, cond}
use mathlib.Core.List.{List, [], ◌∷◌, ◌++◌, append-nil}
use Prim.Native.Nat.{ℕ, zero, suc, ◌+◌, ◌-◌, ◌*◌, ◌/◌, ◌%◌, ◌^◌, ◌≤◌, ◌<◌}
use native.Mathlib.Nat.{zero-add, add-zero, suc-add, mod-lt, zero-lt-suc}
use native.Mathlib.Numerals.{add-one}
use native.Mathlib.Omega.{arith}
use lib.Arith.{lt-one}
use lib.Dec.{eqb, leb}
use lib.Pow.{shr_lt}
use lib.ListN.{length, get_or, length-append}
use lib.Count.{ones, ones_step}
use borrow.Author.Tests.{leb-true, leb-false}
use Rattle.paper.specs.Limits.{wide_from}
use Rattle.paper.specs.Lists.{keep, up_to}
use Rattle.paper.specs.Sets.{Set, Within, members}
use Rattle.paper.specs.Listing.{member_bytes}
use Rattle.paper.proofs.Listing.{narrow_long, wide_long, no_bytes, bytes_cons_long, bytes_append}
use Rattle.sets.specs.Words.{bit, set_of}
use Rattle.sets.proofs.Bit.{bit_suc, bit_zero}
use Rattle.sets.proofs.Words.{set_in}

-- the members among some events depend on those events alone
pub keep_agree : (S U : Set) (k m : ℕ) → ((j : ℕ) → m ≤ j → j < m + k → S j ≡ U j) → keep S (up_to k m) ≡ keep U (up_to k m)
keep_agree S U zero m h = refl
keep_agree S U (suc k) m h = rw (h m (omega arith) (omega arith), keep_agree S U k (suc m) (λ j q r. h j (omega arith) (omega arith)))

-- the members among a + b events, in two parts
pub keep_add : (S : Set) (a b m : ℕ) → keep S (up_to (a + b) m) ≡ keep S (up_to a m) ++ keep S (up_to b (m + a))
keep_add S zero b m = ap₂ (λ (k i : ℕ). keep S (up_to k i)) (zero-add b) (sym (add-zero m))
keep_add S (suc a) b m =
    let at : suc m + a ≡ m + suc a = omega arith in
    ap (λ (k : ℕ). keep S (up_to k m)) (suc-add a b)
    ∙ go (keep S (up_to (a + b) (suc m))) (keep S (up_to a (suc m))) (keep S (up_to b (m + suc a))) (S m) (keep_add S a b (suc m) ∙ ap (λ (i : ℕ). keep S (up_to a (suc m)) ++ keep S (up_to b i)) at)
  where
    go : (l r x : List ℕ) (t : Bool) → l ≡ r ++ x → cond t (m ∷ l) l ≡ cond t (m ∷ r) r ++ x
    go l r x true e = ap (λ (y : List ℕ). m ∷ y) e
    go l r x false e = e

-- none of them is a member
pub keep_no : (S : Set) (k m : ℕ) → ((j : ℕ) → m ≤ j → S j ≡ false) → keep S (up_to k m) ≡ []
keep_no S zero m h = refl
keep_no S (suc k) m h = rw (h m (omega arith)) (keep_no S k (suc m) (λ j l. h j (omega arith)))

-- the members among the first events, and the others: none, where no member is among the others
module _ (S : Set) (a n : ℕ) (h : a ≤ n) where
  pub two_parts : members n S ≡ members a S ++ keep S (up_to (n - a) (0 + a))
  two_parts = let e : n ≡ a + (n - a) = omega arith in ap (λ (k : ℕ). members k S) e ∙ keep_add S a (n - a) 0

  pub fewer : length (members a S) ≤ length (members n S)
  fewer =
      let q : length (members n S) ≡ length (members a S) + length (keep S (up_to (n - a) (0 + a))) = ap length two_parts ∙ length-append (members a S) (keep S (up_to (n - a) (0 + a))) in
      omega arith

  pub members_all : Within a S → members n S ≡ members a S
  members_all w = two_parts ∙ ap (λ (l : List ℕ). members a S ++ l) (keep_no S (n - a) (0 + a) (λ j l. w j (omega arith))) ∙ append-nil (members a S)

-- at most all of them are members
pub count_le : (S : Set) (k m : ℕ) → length (keep S (up_to k m)) ≤ k
count_le S zero m = omega arith
count_le S (suc k) m = go (keep S (up_to k (suc m))) (S m) (count_le S k (suc m))
  where
    go : (l : List ℕ) (t : Bool) → length l ≤ k → length (cond t (m ∷ l) l) ≤ suc k
    go l true h = omega arith
    go l false h = omega arith

-- the members among d events that a number's bits tell
count_bits : (S : Set) (d m w : ℕ) → w < 2 ^ d → ((j : ℕ) → j < d → S (m + j) ≡ eqb (bit w j) 1) → length (keep S (up_to d m)) ≡ ones w
unfolding ones
count_bits S zero m w h t = sym (ap ones (lt-one h))
count_bits S (suc d) m w h t =
    let first : S m ≡ eqb (w % 2) 1 = ap S (omega arith) ∙ t 0 (omega arith) ∙ ap (λ (n : ℕ). eqb n 1) (bit_zero w) in
    let half : w / 2 < 2 ^ d = shr_lt d 1 (subst (λ (x : ℕ). w < 2 ^ x) (sym (add-one d)) h) in
    let rest = count_bits S d (suc m) (w / 2) half (λ j l. ap S (omega arith) ∙ t (suc j) (omega arith) ∙ ap (λ (n : ℕ). eqb n 1) (bit_suc w j)) in
    ap (λ (b : Bool). length (cond b (m ∷ keep S (up_to d (suc m))) (keep S (up_to d (suc m))))) first
    ∙ go (w % 2) (keep S (up_to d (suc m))) (mod-lt w (zero-lt-suc 1)) ∙ ap (λ (n : ℕ). w % 2 + n) rest ∙ sym (ones_step w)
  where
    go : (v : ℕ) (l : List ℕ) → v < 2 → length (cond (eqb v 1) (m ∷ l) l) ≡ v + length l
    go zero l q = sym (zero-add (length l))
    go (suc zero) l q = omega arith
    go (suc (suc v)) l q = absurd (omega arith)

-- one word more
pub count_word : (ws : List ℕ) (k : ℕ) → get_or ws k 0 < 2 ^ 64
    → length (members (k * 64) (set_of ws)) + ones (get_or ws k 0) ≡ length (members ((k + 1) * 64) (set_of ws))
count_word ws k h =
    let end : k * 64 + 64 ≡ (k + 1) * 64 = omega arith in
    let word : length (keep (set_of ws) (up_to 64 (0 + k * 64))) ≡ ones (get_or ws k 0) =
    count_bits (set_of ws) 64 (0 + k * 64) (get_or ws k 0) h (λ j l. ap (λ (i : ℕ). set_of ws (i + j)) (zero-add (k * 64)) ∙ set_in ws k j l) in
    ap (λ (n : ℕ). length (members (k * 64) (set_of ws)) + n) (sym word)
    ∙ sym (ap length (keep_add (set_of ws) (k * 64) 64 0) ∙ length-append (members (k * 64) (set_of ws)) (keep (set_of ws) (up_to 64 (0 + k * 64)))) ∙ ap (λ (n : ℕ). length (members n (set_of ws))) end

-- ---- the bytes

-- two for each member below event 256, three for each other
pub narrow_bytes : (S : Set) (k m : ℕ) → m + k ≤ wide_from → length (member_bytes (keep S (up_to k m))) ≡ 2 * length (keep S (up_to k m))
narrow_bytes S zero m h = ap length no_bytes
narrow_bytes S (suc k) m h = go (S m) (keep S (up_to k (suc m))) (narrow_bytes S k (suc m) (omega arith))
  where
    go : (t : Bool) (l : List ℕ) → length (member_bytes l) ≡ 2 * length l → length (member_bytes (cond t (m ∷ l) l)) ≡ 2 * length (cond t (m ∷ l) l)
    go true l e = let n = narrow_long m (omega arith) in bytes_cons_long m l ∙ omega arith
    go false l e = e

pub wide_bytes : (S : Set) (k m : ℕ) → wide_from ≤ m → length (member_bytes (keep S (up_to k m))) ≡ 3 * length (keep S (up_to k m))
wide_bytes S zero m h = ap length no_bytes
wide_bytes S (suc k) m h = go (S m) (keep S (up_to k (suc m))) (wide_bytes S k (suc m) (omega arith))
  where
    go : (t : Bool) (l : List ℕ) → length (member_bytes l) ≡ 3 * length l → length (member_bytes (cond t (m ∷ l) l)) ≡ 3 * length (cond t (m ∷ l) l)
    go true l e = let n = wide_long m (omega arith) in bytes_cons_long m l ∙ omega arith
    go false l e = e

-- the members among the first events have no more bytes than all
pub fewer_bytes : (S : Set) (a n : ℕ) → a ≤ n → length (member_bytes (members a S)) ≤ length (member_bytes (members n S))
fewer_bytes S a n h =
    let rest = keep S (up_to (n - a) (0 + a)) in
    let q : length (member_bytes (members n S)) ≡ length (member_bytes (members a S)) + length (member_bytes rest) =
    ap (λ (l : List ℕ). length (member_bytes l)) (two_parts S a n h) ∙ ap length (bytes_append (members a S) rest) ∙ length-append (member_bytes (members a S)) (member_bytes rest) in
    omega arith

-- by two counts: those below event 256, and all. The number 256 is a variable here: the members below it are then no list of 256 tests
pub wide_members : (S : Set) {w b : ℕ} → w ≡ wide_from → w ≤ b → length (member_bytes (members b S)) + length (members w S) ≡ 3 * length (members b S)
wide_members S {w} {b} e h =
    let rest = keep S (up_to (b - w) (0 + w)) in
    let p = two_parts S w b h in
    let bytes : length (member_bytes (members b S)) ≡ length (member_bytes (members w S)) + length (member_bytes rest) =
    ap (λ (l : List ℕ). length (member_bytes l)) p ∙ ap length (bytes_append (members w S) rest) ∙ length-append (member_bytes (members w S)) (member_bytes rest) in
    let count : length (members b S) ≡ length (members w S) + length rest = ap length p ∙ length-append (members w S) rest in
    let low = narrow_bytes S w 0 (omega arith) in
    let high = wide_bytes S (b - w) (0 + w) (omega arith) in
    omega arith

-- no more than three for each
pub bytes_most : (S : Set) (b : ℕ) → length (member_bytes (members b S)) ≤ 3 * b
bytes_most S b = go wide_from refl (leb b wide_from) refl
  where
    go : (w : ℕ) → w ≡ wide_from → (t : Bool) → leb b w ≡ t → length (member_bytes (members b S)) ≤ 3 * b
    go w q true e = let n = narrow_bytes S b 0 (omega (arith, leb-true b w e)) in let c = count_le S b 0 in omega arith
    go w q false e = let n = wide_members S {w = w} {b = b} q (omega (arith, leb-false b w e)) in let c = count_le S b 0 in omega arith
