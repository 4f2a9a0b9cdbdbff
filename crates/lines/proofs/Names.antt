-- Names, reserved words, and rows of names.
-- Assumes nothing.
use mathlib.Core.Path.{◌≡◌, refl, sym, ap, ◌∙◌}
use native.Mathlib.Decide.{dec_le}
use mathlib.Core.Bool.{Bool, true, false, not, ◌&&◌, ◌||◌, true≢false}
use mathlib.Core.List.{List, [], ◌∷◌}
use Prim.Native.Nat.{ℕ, suc, ◌+◌, ◌-◌, ◌<◌, ◌≤◌}
use native.Mathlib.Omega.{arith}
use borrow.Author.Tests.{le-leb, lt-leb}
use lib.Dec.{eqb, leb, ltb}
use lib.Pointwise.{pointwise}
use lib.ListN.{get_or, length, take, drop, length-drop}
use lib.Seq.{drop-drop}
use Rattle.paper.specs.Bytes.{letter, letter_or_digit, lead, past, starts, same, before, parts_on, parts}
use Rattle.paper.specs.Lists.{every}
use Rattle.paper.specs.Grammar.{reserved, begins_with, is_name, is_row}
use Rattle.lines.specs.Reading.{name_at, Ends, Divides, Steps}
use Rattle.lines.proofs.Leads.{lead_every, ends_front, ends_none, ends_part, drop_at_end}
use Rattle.lines.proofs.Parts.{same_is, before_none, before_cut, before_else, parts_none, parts_cut, parts_first}

-- ---- words

pub word_is : {s : List ℕ} {i e : ℕ} → Ends letter_or_digit s i e → (w : List ℕ) → pointwise eqb (take (e - i) (drop i s)) w ≡ same (name_at s i) w
word_is {s} {i} {e} n w = rw (ends_part n) (same_is (name_at s i) w)

pub reserved_is : (w : List ℕ) → ((((same w (97 ∷ 110 ∷ 100 ∷ []) || same w (111 ∷ 114 ∷ [])) || same w (97 ∷ 116 ∷ [])) || same w (105 ∷ 110 ∷ [])) || same w (112 ∷ [])) ≡ reserved w
unfolding reserved
reserved_is w = go (same w (97 ∷ 110 ∷ 100 ∷ [])) (same w (111 ∷ 114 ∷ [])) (same w (97 ∷ 116 ∷ [])) (same w (105 ∷ 110 ∷ [])) (same w (112 ∷ []))
  where
    go : (a b c d e : Bool) → ((((a || b) || c) || d) || e) ≡ (a || (b || (c || (d || (e || false)))))
    go true b c d e = refl
    go false true c d e = refl
    go false false true d e = refl
    go false false false true e = refl
    go false false false false true = refl
    go false false false false false = refl

-- ---- names

pub name_none : is_name [] ≡ false
unfolding is_name begins_with
name_none = refl

-- a name has letters and digits only
pub name_other : (w : List ℕ) → every letter_or_digit w ≡ false → is_name w ≡ false
unfolding is_name
name_other w h = rw h (go (begins_with letter w))
  where
    go : (t : Bool) → (t && false && leb (length w) 12 && not (reserved w)) ≡ false
    go true = refl
    go false = refl

module _ {s : List ℕ} {i e : ℕ} (n : Ends letter_or_digit s i e) where
  name_empty : e ≤ i → is_name (name_at s i) ≡ false
  name_empty h = rw (ends_none n h) name_none

  name_some : i < e → is_name (name_at s i) ≡ ((leb (e - i) 12 && letter (get_or s i 0)) && not (reserved (name_at s i)))
  unfolding is_name begins_with
  name_some h =
      let size : length (name_at s i) ≡ e - i = omega (arith, n.size) in
      rw (lead_every letter_or_digit (drop i s), size, ends_front n h) (go (letter (get_or s i 0)) (leb (e - i) 12) (not (reserved (get_or s i 0 ∷ lead letter_or_digit (drop (i + 1) s)))))
    where
      go : (a b c : Bool) → (((a && true) && b) && c) ≡ ((b && a) && c)
      go true true c = refl
      go true false c = refl
      go false true c = refl
      go false false c = refl

  -- the tests of `lines::is_name`
  pub name_is : (((ltb i e && leb (e - i) 12) && letter (get_or s i 0)) && not (reserved (name_at s i))) ≡ is_name (name_at s i)
  name_is = go (dec_le e i)
    where
      go : Dec (e ≤ i) → (((ltb i e && leb (e - i) 12) && letter (get_or s i 0)) && not (reserved (name_at s i))) ≡ is_name (name_at s i)
      go (yes h) = rw (lt-leb (suc i) e (omega arith), name_empty h) refl
      go (no h) = let k : i < e = omega arith in rw (le-leb (suc i) e (omega arith), name_some k) refl

-- ---- rows

pub row_first : {sep : List ℕ} → Divides letter_or_digit sep → (l : List ℕ) → is_name (before sep l) ≡ false → is_row sep l ≡ false
unfolding is_row
row_first {sep} d l h = rw (parts_first d l, h) refl

pub row_empty : (sep : List ℕ) → is_row sep [] ≡ false
unfolding is_row parts_on is_name begins_with
row_empty sep = refl

module _ {sep : List ℕ} (d : Divides letter_or_digit sep) (l : List ℕ) where
  -- the front is the first part, or that is no name
  pub no_name : is_name (lead letter_or_digit l) ≡ false → is_name (before sep l) ≡ false
  no_name h = go (past letter_or_digit l) refl (starts sep (past letter_or_digit l)) refl
    where
      go : (r : List ℕ) → past letter_or_digit l ≡ r → (t : Bool) → starts sep (past letter_or_digit l) ≡ t → is_name (before sep l) ≡ false
      go r q true k = rw (before_cut d l k) h
      go [] q false k = rw (before_none d l q) h
      go (b ∷ r) q false k = name_other (before sep l) (before_else d l b r q k)

  pub no_sep : starts sep (past letter_or_digit l) ≡ false → (past letter_or_digit l ≡ [] → ⊥) → is_name (before sep l) ≡ false
  no_sep h some = go (past letter_or_digit l) refl
    where
      go : (r : List ℕ) → past letter_or_digit l ≡ r → is_name (before sep l) ≡ false
      go [] q = absurd (some q)
      go (b ∷ r) q = name_other (before sep l) (before_else d l b r q h)

module _ {s sep : List ℕ} {i e : ℕ} (d : Divides letter_or_digit sep) (n : Ends letter_or_digit s i e) where
  pub row_no_name : is_name (name_at s i) ≡ false → is_row sep (drop i s) ≡ false
  row_no_name h = row_first d (drop i s) (no_name d (drop i s) h)

  pub row_end : length s ≤ e → is_row sep (drop i s) ≡ is_name (name_at s i)
  unfolding is_row
  row_end h = rw (parts_none d (drop i s) (sym n.rest ∙ drop_at_end s e h)) (go (is_name (name_at s i)))
    where
      go : (t : Bool) → (t && true) ≡ t
      go true = refl
      go false = refl

  not_end : e < length s → drop e s ≡ [] → ⊥
  not_end h q = let z : length (drop e s) ≡ 0 = ap length q in omega (arith, simp length-drop at z)

  pub row_no_sep : e < length s → starts sep (drop e s) ≡ false → is_row sep (drop i s) ≡ false
  row_no_sep h q = row_first d (drop i s) (no_sep d (drop i s) (rw n.rest at q) (λ z. not_end h (n.rest ∙ z)))

  parts_next : starts sep (drop e s) ≡ true → parts sep (drop i s) ≡ name_at s i ∷ parts sep (drop (e + length sep) s)
  parts_next q =
      parts_cut d (drop i s) (rw n.rest at q) ∙ ap (λ m. name_at s i ∷ parts sep m) (ap (drop (length sep)) (sym n.rest) ∙ drop-drop (length sep) e s)

  pub row_next : is_name (name_at s i) ≡ true → starts sep (drop e s) ≡ true → is_row sep (drop i s) ≡ is_row sep (drop (e + length sep) s)
  unfolding is_row
  row_next h q = rw (parts_next q, h) refl

  -- a row's names one after the other
  module _ (g : is_row sep (drop i s) ≡ true) where
    row_name : is_name (name_at s i) ≡ true
    row_name = go (is_name (name_at s i)) refl
      where
        go : (t : Bool) → is_name (name_at s i) ≡ t → is_name (name_at s i) ≡ true
        go true q = q
        go false q = absurd (true≢false (sym g ∙ row_no_name q))

    row_some : i < e
    row_some = go (dec_le e i)
      where
        go : Dec (e ≤ i) → i < e
        go (yes h) = absurd (true≢false (sym row_name ∙ name_empty n h))
        go (no h) = omega arith

    row_sep : e < length s → starts sep (drop e s) ≡ true
    row_sep h = go (starts sep (drop e s)) refl
      where
        go : (t : Bool) → starts sep (drop e s) ≡ t → starts sep (drop e s) ≡ true
        go true q = q
        go false q = absurd (true≢false (sym g ∙ row_no_sep h q))

    row_on : e < length s → is_row sep (drop (e + length sep) s) ≡ true
    row_on h = sym (row_next row_name (row_sep h)) ∙ g

    row_room : e < length s → e + length sep < length s
    row_room h = go (dec_le (length s) (e + length sep))
      where
        go : Dec (length s ≤ e + length sep) → e + length sep < length s
        go (yes k) = absurd (true≢false (sym (row_on h) ∙ rw (drop_at_end s (e + length sep) k) (row_empty sep)))
        go (no k) = omega arith

    pub steps_last : length s ≤ e → Steps sep s i e
    steps_last h = record {
      after = row_some;
      inside = n.inside;
      name = row_name;
      last = λ _. parts_none d (drop i s) (sym n.rest ∙ drop_at_end s e h);
      more = λ k. absurd (omega arith);
      row = λ k. absurd (omega arith);
      place = λ k. absurd (omega arith);
    }

    pub steps_more : e < length s → Steps sep s i (e + length sep)
    steps_more h = let z = row_room h in let y = row_some in record {
      after = omega arith;
      inside = omega arith;
      name = row_name;
      last = λ k. absurd (omega arith);
      more = λ _. parts_next (row_sep h);
      row = λ _. row_on h;
      place = λ _. ap (λ k. k + length sep) n.size;
    }
