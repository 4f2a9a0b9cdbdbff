-- A line that is typed so says so: for the exporter's round trip.
-- Assumes nothing.
use mathlib.Core.Path.{◌≡◌, refl, sym, ap, ◌∙◌}
use mathlib.Core.Bool.{Bool, true, false, not, ◌&&◌, ◌||◌, true≢false, false≢true}
use mathlib.Core.List.{List, [], ◌∷◌, ◌++◌}
use Prim.Native.Nat.{ℕ}
use native.Mathlib.Omega.{arith}
use borrow.Author.Tests.{eqb-true, eq-eqb}
use lib.Dec.{leb, eqb}
use lib.ListN.{length, drop}
use lib.Seq.{drop-append_seam}
use Rattle.paper.specs.Bytes.{letter, digit, letter_or_digit, lead, past, starts, same, before, behind, parts}
use Rattle.paper.specs.Lists.{every}
use Rattle.paper.specs.Grammar.{chance, equation, by_or, by_and, at_least, reserved, begins_with, is_name, is_number, value, is_row, row, equation_of, joined_of, counted_of, right_of, chance_of, line_of, and_word, or_word, comma, equals, at_least_word, in_word, blank, chance_word}
use Rattle.paper.specs.Spelling.{join, or_line, and_line, least_line, chance_line}
use Rattle.lines.specs.Reading.{Divides}
use Rattle.lines.proofs.Leads.{lead_yes, lead_no, lead_none, past_yes, past_no, past_none}
use Rattle.lines.proofs.Parts.{before_cut, behind_cut, parts_none, parts_cut, append_none}
use Rattle.lines.proofs.Names.{no_sep, row_first}
use Rattle.lines.proofs.Judging.{and_divides, or_divides, comma_divides, equals_divides, blank_divides, in_divides, row_good, row_bad}
use Rattle.lines.proofs.Tests.{and_first, and_second}

-- ---- fronts

module _ (p : ℕ → Bool) where
  lead_word : (w r : List ℕ) → every p w ≡ true → lead p (w ++ r) ≡ w ++ lead p r
  lead_word [] r h = refl
  lead_word (b ∷ w) r h = lead_yes p b (w ++ r) (and_first (p b) (every p w) h) ∙ ap (λ m. b ∷ m) (lead_word w r (and_second (p b) (every p w) h))

  past_word : (w r : List ℕ) → every p w ≡ true → past p (w ++ r) ≡ past p r
  past_word [] r h = refl
  past_word (b ∷ w) r h = past_yes p b (w ++ r) (and_first (p b) (every p w) h) ∙ past_word w r (and_second (p b) (every p w) h)

  -- a list that begins with a word and then a byte that does not pass has that word as its front
  starts_lead : (u : List ℕ) (h : ℕ) (t l : List ℕ) → every p u ≡ true → p h ≡ false → starts (u ++ h ∷ t) l ≡ true → lead p l ≡ u
  unfolding starts
  starts_lead [] h t [] k q e = lead_none p
  starts_lead [] h t (b ∷ l) k q e = lead_no p b l (ap p (sym (eqb-true h b (and_first (eqb h b) (starts t l) e))) ∙ q)
  starts_lead (a ∷ u) h t [] k q e = absurd (false≢true e)
  starts_lead (a ∷ u) h t (b ∷ l) k q e =
      let x = eqb-true a b (and_first (eqb a b) (starts (u ++ h ∷ t) l) e) in
      let y = sym x in
      let z = starts_lead u h t l (and_second (p a) (every p u) k) q (and_second (eqb a b) (starts (u ++ h ∷ t) l) e) in
      lead_yes p b l (ap p y ∙ and_first (p a) (every p u) k) ∙ (λ j. y j ∷ z j)

starts_self : (w r : List ℕ) → starts w (w ++ r) ≡ true
unfolding starts
starts_self [] r = refl
starts_self (a ∷ w) r = rw (self a) (starts_self w r)
  where
    self : (n : ℕ) → eqb n n ≡ true
    self n = eq-eqb n n refl

-- a word w and then a separator
module _ {p : ℕ → Bool} {sep : List ℕ} (d : Divides p sep) (w r : List ℕ) (h : every p w ≡ true) where
  sep_first : (m : List ℕ) → lead p (sep ++ m) ≡ []
  sep_first m = ap (λ s. lead p (s ++ m)) d.is ∙ lead_no p d.first (d.others ++ m) d.out

  sep_past : (m : List ℕ) → past p (sep ++ m) ≡ sep ++ m
  sep_past m = ap (λ s. past p (s ++ m)) d.is ∙ past_no p d.first (d.others ++ m) d.out ∙ ap (λ s. s ++ m) (sym d.is)

  word_lead : lead p (w ++ (sep ++ r)) ≡ w
  word_lead = lead_word p w (sep ++ r) h ∙ ap (λ m. w ++ m) (sep_first r) ∙ append_none w

  word_past : past p (w ++ (sep ++ r)) ≡ sep ++ r
  word_past = past_word p w (sep ++ r) h ∙ sep_past r

  word_starts : starts sep (past p (w ++ (sep ++ r))) ≡ true
  word_starts = ap (starts sep) word_past ∙ starts_self sep r

  word_before : before sep (w ++ (sep ++ r)) ≡ w
  word_before = before_cut d (w ++ (sep ++ r)) word_starts ∙ word_lead

  word_behind : behind sep (w ++ (sep ++ r)) ≡ r
  word_behind = behind_cut d (w ++ (sep ++ r)) word_starts ∙ ap (drop (length sep)) word_past ∙ drop-append_seam sep r

  word_parts : parts sep (w ++ (sep ++ r)) ≡ w ∷ parts sep r
  word_parts = parts_cut d (w ++ (sep ++ r)) word_starts ∙ (λ j. word_lead j ∷ parts sep ((ap (drop (length sep)) word_past ∙ drop-append_seam sep r) j))

-- ---- names

name_every : (w : List ℕ) → is_name w ≡ true → every letter_or_digit w ≡ true
unfolding is_name
name_every w h = and_second (begins_with letter w) (every letter_or_digit w) (and_first (begins_with letter w && every letter_or_digit w) (leb (length w) 12) (and_first (begins_with letter w && every letter_or_digit w && leb (length w) 12) (not (reserved w)) h))

name_free : (w : List ℕ) → is_name w ≡ true → reserved w ≡ false
unfolding is_name
name_free w h = go (reserved w) (and_second (begins_with letter w && every letter_or_digit w && leb (length w) 12) (not (reserved w)) h)
  where
    go : (t : Bool) → not t ≡ true → t ≡ false
    go true q = absurd (false≢true q)
    go false q = refl

-- a list whose front is a name does not begin with a reserved word
not_reserved : (u : List ℕ) (b : ℕ) (t l : List ℕ) → every letter_or_digit u ≡ true → letter_or_digit b ≡ false → reserved u ≡ true → is_name (lead letter_or_digit l) ≡ true → starts (u ++ b ∷ t) l ≡ false
not_reserved u b t l h k q n = go (starts (u ++ b ∷ t) l) refl
  where
    go : (v : Bool) → starts (u ++ b ∷ t) l ≡ v → starts (u ++ b ∷ t) l ≡ false
    go true e = absurd (true≢false (sym q ∙ ap reserved (sym (starts_lead letter_or_digit u b t l h k e)) ∙ name_free (lead letter_or_digit l) n))
    go false e = e

not_chance : (l : List ℕ) → is_name (lead letter_or_digit l) ≡ true → starts chance_word l ≡ false
unfolding letter_or_digit letter digit reserved same
not_chance l n = not_reserved (112 ∷ []) 32 [] l refl refl refl n

not_least : (l : List ℕ) → is_name (lead letter_or_digit l) ≡ true → starts at_least_word l ≡ false
unfolding letter_or_digit letter digit reserved same
not_least l n = not_reserved (97 ∷ 116 ∷ []) 45 (108 ∷ 101 ∷ 97 ∷ 115 ∷ 116 ∷ 32 ∷ []) l refl refl refl n

-- ---- rows

module _ {sep : List ℕ} (d : Divides letter_or_digit sep) where
  join_parts : (y : List ℕ) (ys : List (List ℕ)) → every is_name (y ∷ ys) ≡ true → parts sep (join sep y ys) ≡ y ∷ ys
  unfolding join
  join_parts y [] h =
      let k = name_every y (and_first (is_name y) true h) in
      let e : past letter_or_digit y ≡ [] = ap (past letter_or_digit) (sym (append_none y)) ∙ past_word letter_or_digit y [] k ∙ past_none letter_or_digit in
      let g : lead letter_or_digit y ≡ y = ap (lead letter_or_digit) (sym (append_none y)) ∙ lead_word letter_or_digit y [] k ∙ ap (λ m. y ++ m) (lead_none letter_or_digit) ∙ append_none y in
      parts_none d y e ∙ ap (λ m. m ∷ []) g
  join_parts y (z ∷ ys) h =
      word_parts d y (join sep z ys) (name_every y (and_first (is_name y) (every is_name (z ∷ ys)) h)) ∙ ap (λ m. y ∷ m) (join_parts z ys (and_second (is_name y) (every is_name (z ∷ ys)) h))

  join_row : (y : List ℕ) (ys : List (List ℕ)) → every is_name (y ∷ ys) ≡ true → is_row sep (join sep y ys) ≡ true
  unfolding is_row
  join_row y ys h = ap (every is_name) (join_parts y ys h) ∙ h

  join_lead : (y : List ℕ) (ys : List (List ℕ)) → every is_name (y ∷ ys) ≡ true → is_name (lead letter_or_digit (join sep y ys)) ≡ true
  unfolding join
  join_lead y [] h =
      let k = name_every y (and_first (is_name y) true h) in
      ap (λ m. is_name (lead letter_or_digit m)) (sym (append_none y)) ∙ ap is_name (lead_word letter_or_digit y [] k ∙ ap (λ m. y ++ m) (lead_none letter_or_digit) ∙ append_none y) ∙ and_first (is_name y) true h
  join_lead y (z ∷ ys) h = ap is_name (word_lead d y (join sep z ys) (name_every y (and_first (is_name y) (every is_name (z ∷ ys)) h))) ∙ and_first (is_name y) (every is_name (z ∷ ys)) h

  join_row_is : (y : List ℕ) (ys : List (List ℕ)) → every is_name (y ∷ ys) ≡ true → row sep (join sep y ys) ≡ y ∷ ys
  join_row_is y ys h = row_good sep (join sep y ys) (join_row y ys h) ∙ join_parts y ys h

-- ---- lines

module _ (x : List ℕ) (n : is_name x ≡ true) where
  left_line : (r : List ℕ) → line_of (x ++ (equals ++ r)) ≡ right_of x r
  unfolding line_of
  left_line r =
      let k = name_every x n in
      let u : starts chance_word (x ++ (equals ++ r)) ≡ false = not_chance (x ++ (equals ++ r)) (ap is_name (word_lead equals_divides x r k) ∙ n) in
      let a : before equals (x ++ (equals ++ r)) ≡ x = word_before equals_divides x r k in
      let b : behind equals (x ++ (equals ++ r)) ≡ r = word_behind equals_divides x r k in
      rw (u, a, b, n) refl

  right_joined : (r : List ℕ) → is_name (lead letter_or_digit r) ≡ true → right_of x r ≡ joined_of x (row or_word r) (row and_word r)
  unfolding right_of
  right_joined r h = rw (not_least r h) refl

  pub spelled_or : (y : List ℕ) (ys : List (List ℕ)) → every is_name (y ∷ ys) ≡ true → line_of (or_line x y ys) ≡ equation x by_or (y ∷ ys)
  spelled_or y ys h = left_line (join or_word y ys) ∙ right_joined (join or_word y ys) (join_lead or_divides y ys h) ∙ ap (λ m. joined_of x m (row and_word (join or_word y ys))) (join_row_is or_divides y ys h)

  no_or : (y z : List ℕ) (ys : List (List ℕ)) → is_name y ≡ true → is_row or_word (join and_word y (z ∷ ys)) ≡ false
  unfolding join starts
  no_or y z ys h =
      let k = name_every y h in
      let e : past letter_or_digit (y ++ (and_word ++ join and_word z ys)) ≡ and_word ++ join and_word z ys = word_past and_divides y (join and_word z ys) k in
      row_first or_divides (y ++ (and_word ++ join and_word z ys)) (no_sep or_divides (y ++ (and_word ++ join and_word z ys)) (ap (starts or_word) e) (λ q. let w = sym e ∙ q in let v : ◌≡◌ {A = ℕ} 0 1 = cc in omega arith))

  pub spelled_and : (y z : List ℕ) (ys : List (List ℕ)) → every is_name (y ∷ z ∷ ys) ≡ true → line_of (and_line x y z ys) ≡ equation x by_and (y ∷ z ∷ ys)
  spelled_and y z ys h = left_line (join and_word y (z ∷ ys)) ∙ right_joined (join and_word y (z ∷ ys)) (join_lead and_divides y (z ∷ ys) h) ∙ ap (λ m. joined_of x m (row and_word (join and_word y (z ∷ ys)))) (row_bad or_word (join and_word y (z ∷ ys)) (no_or y z ys (and_first (is_name y) (every is_name (z ∷ ys)) h))) ∙ ap (equation_of x by_and) (join_row_is and_divides y (z ∷ ys) h)

number_every : (w : List ℕ) → is_number w ≡ true → every digit w ≡ true
unfolding is_number
number_every [] h = absurd (false≢true h)
number_every (b ∷ w) h = and_first (every digit (b ∷ w)) (leb 49 b || same w []) h

module _ (x : List ℕ) (n : is_name x ≡ true) (k : List ℕ) (m : is_number k ≡ true) where
  pub spelled_least : (y : List ℕ) (ys : List (List ℕ)) → every is_name (y ∷ ys) ≡ true → line_of (least_line x k y ys) ≡ equation x (at_least (value k)) (y ∷ ys)
  unfolding right_of counted_of
  spelled_least y ys h =
      let q = number_every k m in
      let u : starts at_least_word (at_least_word ++ (k ++ (in_word ++ join comma y ys))) ≡ true = starts_self at_least_word (k ++ (in_word ++ join comma y ys)) in
      let a : before in_word (k ++ (in_word ++ join comma y ys)) ≡ k = word_before in_divides k (join comma y ys) q in
      let b : behind in_word (k ++ (in_word ++ join comma y ys)) ≡ join comma y ys = word_behind in_divides k (join comma y ys) q in
      left_line x n (at_least_word ++ (k ++ (in_word ++ join comma y ys))) ∙ rw (u, a, b, m, join_row comma_divides y ys h, join_parts comma_divides y ys h) refl

  pub spelled_chance : line_of (chance_line x k) ≡ chance x (value k)
  unfolding line_of chance_of
  spelled_chance =
      let q = name_every x n in
      let u : starts chance_word (chance_word ++ (x ++ (blank ++ k))) ≡ true = starts_self chance_word (x ++ (blank ++ k)) in
      let a : before blank (x ++ (blank ++ k)) ≡ x = word_before blank_divides x k q in
      let b : behind blank (x ++ (blank ++ k)) ≡ k = word_behind blank_divides x k q in
      rw (u, a, b, n, m) refl
