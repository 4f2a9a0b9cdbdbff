-- What a line says, way by way through the functions that judge it.
-- Assumes nothing.
use mathlib.Core.Path.{◌≡◌, refl, sym, ap, ◌∙◌}
use Rattle.std.specs.Prelude.{Option}
use mathlib.Core.Bool.{Bool, true, false, cond, ◌&&◌}
use mathlib.Core.List.{List, [], ◌∷◌}
use Prim.Native.Nat.{ℕ, ◌+◌, ◌<◌, ◌≤◌}
use native.Mathlib.Omega.{arith}
use lib.ListN.{length, drop, length-drop}
use lib.Seq.{drop-drop}
use Rattle.paper.specs.Bytes.{letter, digit, letter_or_digit, lead, past, starts, before, behind, parts_on, parts}
use Rattle.paper.specs.Grammar.{bad, equation, chance, Connective, by_or, by_and, at_least, begins_with, is_name, is_number, value, is_row, row, equation_of, joined_of, counted_of, right_of, chance_of, line_of, and_word, or_word, comma, equals, at_least_word, in_word, blank, chance_word}
use Rattle.lines.specs.Reading.{name_at, Ends, Divides, Capped, Given, Joined, Counted, Reads}
use Rattle.lines.specs.declared.Kind.{Kind}
use Rattle.lines.proofs.Leads.{lead_past, past_first, ends_whole}
use Rattle.lines.proofs.Parts.{starts_room, every_append, before_none, behind_none, before_cut, behind_cut, before_else, parts_first}
use Rattle.lines.proofs.Names.{no_name, no_sep, row_empty}
use Rattle.lines.proofs.Numbers.{number_none, number_other}

-- ---- the separators

pub and_divides : Divides letter_or_digit and_word
unfolding letter_or_digit letter digit
and_divides = record { first = 32; others = 97 ∷ 110 ∷ 100 ∷ 32 ∷ []; is = refl; out = refl }

pub or_divides : Divides letter_or_digit or_word
unfolding letter_or_digit letter digit
or_divides = record { first = 32; others = 111 ∷ 114 ∷ 32 ∷ []; is = refl; out = refl }

pub comma_divides : Divides letter_or_digit comma
unfolding letter_or_digit letter digit
comma_divides = record { first = 44; others = 32 ∷ []; is = refl; out = refl }

pub equals_divides : Divides letter_or_digit equals
unfolding letter_or_digit letter digit
equals_divides = record { first = 32; others = 61 ∷ 32 ∷ []; is = refl; out = refl }

pub blank_divides : Divides letter_or_digit blank
unfolding letter_or_digit letter digit
blank_divides = record { first = 32; others = []; is = refl; out = refl }

pub in_divides : Divides digit in_word
unfolding digit
in_divides = record { first = 32; others = 105 ∷ 110 ∷ 32 ∷ []; is = refl; out = refl }

-- what is behind the separator
behind_place : {p : ℕ → Bool} {s : List ℕ} {i e : ℕ} → Ends p s i e → (k : ℕ) → drop k (past p (drop i s)) ≡ drop (e + k) s
behind_place {p} {s} {i} {e} n k = ap (drop k) (sym n.rest) ∙ drop-drop k e s

-- ---- a chance

chance_bad : (l : List ℕ) → is_name (before blank l) ≡ false → chance_of l ≡ bad
unfolding chance_of
chance_bad l h = rw h refl

chance_short : (l : List ℕ) → is_number (behind blank l) ≡ false → chance_of l ≡ bad
unfolding chance_of
chance_short l h = rw h (go (is_name (before blank l)))
  where
    go : (t : Bool) → cond (t && false) (chance (before blank l) (value (behind blank l))) bad ≡ bad
    go true = refl
    go false = refl

-- a list with something behind its digits is no number
number_more : (l : List ℕ) (b : ℕ) (m : List ℕ) → past digit l ≡ b ∷ m → is_number l ≡ false
number_more l b m h = number_other l (rw (sym (lead_past digit l), h) (every_append digit (lead digit l) b m (past_first digit l b m h)))

module _ {s : List ℕ} {i e : ℕ} (n : Ends letter_or_digit s i e) where
  pub chance_no_name : is_name (name_at s i) ≡ false → chance_of (drop i s) ≡ bad
  chance_no_name h = chance_bad (drop i s) (no_name blank_divides (drop i s) h)

  pub chance_no_blank : starts blank (drop e s) ≡ false → chance_of (drop i s) ≡ bad
  chance_no_blank h = go (past letter_or_digit (drop i s)) refl
    where
      go : (r : List ℕ) → past letter_or_digit (drop i s) ≡ r → chance_of (drop i s) ≡ bad
      go [] q = chance_short (drop i s) (rw (behind_none blank_divides (drop i s) q) number_none)
      go (b ∷ r) q = chance_bad (drop i s) (no_sep blank_divides (drop i s) (rw n.rest at h) (λ z. let y : ◌≡◌ {A = ℕ} 0 1 = cc in omega arith))

  module _ (h : starts blank (drop e s) ≡ true) where
    chance_name : before blank (drop i s) ≡ name_at s i
    chance_name = before_cut blank_divides (drop i s) (rw n.rest at h)

    chance_behind : behind blank (drop i s) ≡ drop (e + 1) s
    chance_behind = behind_cut blank_divides (drop i s) (rw n.rest at h) ∙ behind_place n 1

    module _ {d : ℕ} (m : Ends digit s (e + 1) d) where
      pub chance_tail : d < length s → chance_of (drop i s) ≡ bad
      chance_tail k = chance_short (drop i s) (rw chance_behind (go (past digit (drop (e + 1) s)) refl))
        where
          go : (r : List ℕ) → past digit (drop (e + 1) s) ≡ r → is_number (drop (e + 1) s) ≡ false
          go [] q = let z : length (drop d s) ≡ 0 = ap length (m.rest ∙ q) in absurd (omega (arith, simp length-drop at z))
          go (b ∷ r) q = number_more (drop (e + 1) s) b r q

      pub chance_no_number : length s ≤ d → is_number (lead digit (drop (e + 1) s)) ≡ false → chance_of (drop i s) ≡ bad
      chance_no_number k q = chance_short (drop i s) (rw (chance_behind, sym (ends_whole m k)) q)

      chance_is : length s ≤ d → is_name (name_at s i) ≡ true → is_number (lead digit (drop (e + 1) s)) ≡ true → chance_of (drop i s) ≡ chance (name_at s i) (value (lead digit (drop (e + 1) s)))
      unfolding chance_of
      chance_is k p q = rw (chance_name, chance_behind, p, ends_whole m k, rw (ends_whole m k) at q) refl

      pub chance_good : {v : ℕ} (at : ℕ) → i ≡ at + 2 → at + 2 ≤ length s → length s ≤ d → is_name (name_at s i) ≡ true → is_number (lead digit (drop (e + 1) s)) ≡ true → Capped (value (lead digit (drop (e + 1) s))) v → Given s (chance_of (drop i s)) at v
      chance_good at z o k p q c = record {
        inside = o;
        number = value (lead digit (drop (e + 1) s));
        capped = c;
        is = chance_is k p q ∙ ap (λ y. chance (name_at s y) (value (lead digit (drop (e + 1) s)))) z;
      }

-- ---- the right side

pub row_bad : (sep l : List ℕ) → is_row sep l ≡ false → row sep l ≡ []
row_bad sep l h = rw h refl

pub row_good : (sep l : List ℕ) → is_row sep l ≡ true → row sep l ≡ parts sep l
row_good sep l h = rw h refl

pub equation_good : {sep : List ℕ} → Divides letter_or_digit sep → (x : List ℕ) (c : Connective) (l : List ℕ) → equation_of x c (parts sep l) ≡ equation x c (parts sep l)
equation_good {sep} d x c l = rw (parts_first d l) refl

pub joined_good : (x l : List ℕ) (m : List (List ℕ)) → joined_of x (parts or_word l) m ≡ equation x by_or (parts or_word l)
joined_good x l m = rw (parts_first or_divides l) refl

module _ {s : List ℕ} {i d : ℕ} (x : List ℕ) (n : Ends digit s i d) where
  counted_bad : (l : List ℕ) → is_number (before in_word l) ≡ false → counted_of x l ≡ bad
  unfolding counted_of
  counted_bad l h = rw h refl

  counted_short : (l : List ℕ) → is_row comma (behind in_word l) ≡ false → counted_of x l ≡ bad
  unfolding counted_of
  counted_short l h = rw (row_bad comma (behind in_word l) h) (go (is_number (before in_word l)))
    where
      go : (t : Bool) → cond t bad bad ≡ bad
      go true = refl
      go false = refl

  pub counted_no_number : is_number (lead digit (drop i s)) ≡ false → counted_of x (drop i s) ≡ bad
  counted_no_number h = counted_bad (drop i s) (go (past digit (drop i s)) refl (starts in_word (past digit (drop i s))) refl)
    where
      go : (r : List ℕ) → past digit (drop i s) ≡ r → (t : Bool) → starts in_word (past digit (drop i s)) ≡ t → is_number (before in_word (drop i s)) ≡ false
      go r q true k = rw (before_cut in_divides (drop i s) k) h
      go [] q false k = rw (before_none in_divides (drop i s) q) h
      go (b ∷ r) q false k = number_other (before in_word (drop i s)) (before_else in_divides (drop i s) b r q k)

  pub counted_no_in : starts in_word (drop d s) ≡ false → counted_of x (drop i s) ≡ bad
  counted_no_in h = go (past digit (drop i s)) refl
    where
      go : (r : List ℕ) → past digit (drop i s) ≡ r → counted_of x (drop i s) ≡ bad
      go [] q = counted_short (drop i s) (rw (behind_none in_divides (drop i s) q) (row_empty comma))
      go (b ∷ r) q = counted_bad (drop i s) (number_other (before in_word (drop i s)) (before_else in_divides (drop i s) b r q (rw n.rest at h)))

  module _ (h : starts in_word (drop d s) ≡ true) where
    counted_behind : behind in_word (drop i s) ≡ drop (d + 4) s
    counted_behind = behind_cut in_divides (drop i s) (rw n.rest at h) ∙ behind_place n 4

    pub counted_no_row : is_row comma (drop (d + 4) s) ≡ false → counted_of x (drop i s) ≡ bad
    counted_no_row k = counted_short (drop i s) (rw counted_behind k)

    counted_is : is_number (lead digit (drop i s)) ≡ true → is_row comma (drop (d + 4) s) ≡ true → counted_of x (drop i s) ≡ equation x (at_least (value (lead digit (drop i s)))) (parts comma (drop (d + 4) s))
    unfolding counted_of
    counted_is p k = rw (counted_behind, before_cut in_divides (drop i s) (rw n.rest at h), p, k) (equation_good comma_divides x (at_least (value (lead digit (drop i s)))) (drop (d + 4) s))

    pub counted_good : {at v : ℕ} → at < i → is_number (lead digit (drop i s)) ≡ true → is_row comma (drop (d + 4) s) ≡ true → Capped (value (lead digit (drop i s))) v → Counted s (counted_of x (drop i s)) x at v (d + 4)
    counted_good a p k c = record {
      number = value (lead digit (drop i s));
      capped = c;
      joined = record { after = omega (arith, n.from); inside = starts_room in_word s d n.inside h; row = k; is = counted_is p k };
    }

module _ (s x : List ℕ) (i : ℕ) where
  pub right_counted : (at : ℕ) (k : Option Kind) → starts at_least_word (drop i s) ≡ true → Reads s (counted_of x (drop (i + 9) s)) x at k → Reads s (right_of x (drop i s)) x at k
  unfolding right_of
  right_counted at k h t = let z : drop 9 (drop i s) ≡ drop (i + 9) s = drop-drop 9 i s in rw (h, z) t

  module _ (h : starts at_least_word (drop i s) ≡ false) where
    right_is : right_of x (drop i s) ≡ joined_of x (row or_word (drop i s)) (row and_word (drop i s))
    unfolding right_of
    right_is = rw h refl

    pub right_or : {at : ℕ} → (at < i) × (i ≤ length s) → is_row or_word (drop i s) ≡ true → Joined s (right_of x (drop i s)) x at by_or or_word i
    right_or l g = record {
      after = l.0;
      inside = l.1;
      row = g;
      is = right_is ∙ ap (λ m. joined_of x m (row and_word (drop i s))) (row_good or_word (drop i s) g) ∙ joined_good x (drop i s) (row and_word (drop i s));
    }

    pub right_and : {at : ℕ} → (at < i) × (i ≤ length s) → is_row or_word (drop i s) ≡ false → is_row and_word (drop i s) ≡ true → Joined s (right_of x (drop i s)) x at by_and and_word i
    right_and l g k = record {
      after = l.0;
      inside = l.1;
      row = k;
      is = right_is ∙ ap (λ m. joined_of x m (row and_word (drop i s))) (row_bad or_word (drop i s) g) ∙ ap (equation_of x by_and) (row_good and_word (drop i s) k) ∙ equation_good and_divides x by_and (drop i s);
    }

    pub right_bad : is_row or_word (drop i s) ≡ false → is_row and_word (drop i s) ≡ false → right_of x (drop i s) ≡ bad
    right_bad g k = right_is ∙ ap (λ m. joined_of x m (row and_word (drop i s))) (row_bad or_word (drop i s) g) ∙ ap (equation_of x by_and) (row_bad and_word (drop i s) k)

right_empty : (x : List ℕ) → right_of x [] ≡ bad
unfolding right_of starts is_row parts_on is_name begins_with
right_empty x = refl

-- ---- the line

pub judge_chance : (s x : List ℕ) (at : ℕ) (k : Option Kind) → starts chance_word (drop at s) ≡ true → Reads s (chance_of (drop (at + 2) s)) x at k → Reads s (line_of (drop at s)) x at k
unfolding line_of
judge_chance s x at k h t = let z : drop 2 (drop at s) ≡ drop (at + 2) s = drop-drop 2 at s in rw (h, z) t

module _ {s : List ℕ} {at e : ℕ} (n : Ends letter_or_digit s at e) (u : starts chance_word (drop at s) ≡ false) where
  line_bad : is_name (before equals (drop at s)) ≡ false → line_of (drop at s) ≡ bad
  unfolding line_of
  line_bad h = rw (u, h) refl

  pub judge_no_name : is_name (name_at s at) ≡ false → line_of (drop at s) ≡ bad
  judge_no_name h = line_bad (no_name equals_divides (drop at s) h)

  pub judge_no_equals : starts equals (drop e s) ≡ false → line_of (drop at s) ≡ bad
  unfolding line_of
  judge_no_equals h = go (past letter_or_digit (drop at s)) refl
    where
      cut : (t : Bool) → cond t bad bad ≡ bad
      cut true = refl
      cut false = refl

      go : (r : List ℕ) → past letter_or_digit (drop at s) ≡ r → line_of (drop at s) ≡ bad
      go [] q = rw (u, behind_none equals_divides (drop at s) q, right_empty (before equals (drop at s))) (cut (is_name (before equals (drop at s))))
      go (b ∷ r) q = line_bad (no_sep equals_divides (drop at s) (rw n.rest at h) (λ z. let y : ◌≡◌ {A = ℕ} 0 1 = cc in omega arith))

  pub judge_right : (x : List ℕ) (k : Option Kind) → is_name (name_at s at) ≡ true → starts equals (drop e s) ≡ true → Reads s (right_of (name_at s at) (drop (e + 3) s)) x at k → Reads s (line_of (drop at s)) x at k
  unfolding line_of
  judge_right x k g h t =
      let y : starts equals (past letter_or_digit (drop at s)) ≡ true = rw n.rest at h in
      let z : behind equals (drop at s) ≡ drop (e + 3) s = behind_cut equals_divides (drop at s) y ∙ behind_place n 3 in
      rw (u, z, before_cut equals_divides (drop at s) y, g) t
