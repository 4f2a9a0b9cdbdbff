-- A row of names in its line: which line has one, its names one by one, and the names that are left of it.
-- Assumes nothing.
use mathlib.Core.Path.{◌≡◌, refl, sym, ap, ◌∙◌, subst}
use mathlib.Core.Bool.{Bool, true, false, cond, true≢false, false≢true}
use Rattle.std.specs.Prelude.{Option, Some, None}
use mathlib.Core.List.{List, [], ◌∷◌}
use Prim.Native.Nat.{ℕ, zero, suc, ◌+◌, ◌-◌, ◌<◌, ◌≤◌}
use native.Mathlib.Decide.{dec_lt}
use native.Mathlib.Omega.{arith}
use lib.ListN.{length, take, drop}
use lib.Seq.{drop-drop, length-take-le}
use Rattle.paper.specs.Bytes.{letter, digit, letter_or_digit, in_line, lead, before, parts}
use Rattle.paper.specs.Grammar.{Line, equation, Connective, by_or, by_and, at_least, is_row, or_word, and_word, comma}
use Rattle.paper.specs.Equations.{names_of, rights_of, left_of}
use Rattle.paper.specs.Spots.{between, places_from}
use Rattle.lines.specs.Reading.{name_at, Ends, Divides, Steps, Joined, Reads, ReadsAt}
use Rattle.lines.specs.declared.Kind.{Kind}
use Rattle.lines.specs.declared.Kind.TheVariants.{Chance, Or, And, AtLeast}
use Rattle.scanning.specs.Scanning.{RowAt}
use Rattle.scanning.specs.Judged.{is_equation, IsEquation, LineAt}
use Rattle.lines.proofs.Leads.{lead_no, lead_none, past_first, drop_at_end}
use Rattle.lines.proofs.Parts.{rest_of, parts_first}
use Rattle.lines.proofs.Judging.{and_divides, or_divides, comma_divides}
use Rattle.lines.proofs.Lines.{feed_only}
use Rattle.lines.proofs.Names.{row_empty}

-- ---- a name up to the end of its line

lead_take : (p : ℕ → Bool) (n : ℕ) (l : List ℕ) → lead p (drop n l) ≡ [] → lead p (take n l) ≡ lead p l
unfolding lead
lead_take p zero l h = sym h
lead_take p (suc n) [] h = refl
lead_take p (suc n) (b ∷ l) h = ap (λ m. cond (p b) (b ∷ m) []) (lead_take p n l h)

drop_take : (j n : ℕ) (s : List ℕ) → j ≤ n → drop j (take n s) ≡ take (n - j) (drop j s)
drop_take zero n s h = let z : n - 0 ≡ n = omega arith in rw z refl
drop_take (suc j) zero s h = absurd (omega arith)
drop_take (suc j) (suc n) [] h = sym (take_none (suc n - suc j))
  where
    take_none : (k : ℕ) → ◌≡◌ {A = List ℕ} (take k []) []
    take_none zero = refl
    take_none (suc k) = refl
drop_take (suc j) (suc n) (b ∷ s) h = let z : suc n - suc j ≡ n - j = omega arith in rw z (drop_take j n s (omega arith))

-- a name of a line is the text's name at its place
pub name_line : (text : List ℕ) (stop j : ℕ) → name_at text stop ≡ [] → j ≤ stop → name_at (take stop text) j ≡ name_at text j
name_line text stop j h l =
    let z : j + (stop - j) ≡ stop = omega arith in
    ap (lead letter_or_digit) (drop_take j stop text l) ∙ lead_take letter_or_digit (stop - j) (drop j text) (ap (lead letter_or_digit) (drop-drop (stop - j) j text ∙ ap (λ k. drop k text) z) ∙ h)

letter_in_line : (b : ℕ) → in_line b ≡ false → letter_or_digit b ≡ false
unfolding letter_or_digit letter digit
letter_in_line b h = let e : b ≡ 10 = feed_only b h in rw e refl

pub line_closed_name : {text : List ℕ} {at stop : ℕ} → Ends in_line text at stop → name_at text stop ≡ []
line_closed_name {text} {at} {stop} n = go (drop stop text) refl
  where
    go : (r : List ℕ) → drop stop text ≡ r → lead letter_or_digit r ≡ []
    go [] e = lead_none letter_or_digit
    go (b ∷ r) e = lead_no letter_or_digit b r (letter_in_line b (past_first in_line (drop at text) b r (sym n.rest ∙ e)))

-- ---- rows

pub row_some : {text : List ℕ} {stop : ℕ} {sep : List ℕ} {i : ℕ} → RowAt text stop sep i → i < stop
row_some {text} {stop} {sep} {i} r = go (dec_lt i stop)
  where
    go : Dec (i < stop) → i < stop
    go (yes h) = h
    go (no h) =
        let z : length (take stop text) ≤ i = let y = length-take-le stop text r.inside in omega arith in
        absurd (true≢false (sym r.row ∙ ap (is_row sep) (drop_at_end (take stop text) i z) ∙ row_empty sep))

-- ---- the names that are left of a row

pub record RowLeft (text : List ℕ) (stop : ℕ) (sep : List ℕ) (j : ℕ) (left : List (List ℕ)) : Type 0 where
  pub upto : j ≤ stop
  pub here : j < stop → left ≡ parts sep (drop j (take stop text))
  pub row : j < stop → is_row sep (drop j (take stop text)) ≡ true
  pub done : stop ≤ j → left ≡ []

pub left_start : {text : List ℕ} {stop : ℕ} {sep : List ℕ} {i : ℕ} → RowAt text stop sep i → RowLeft text stop sep i (parts sep (drop i (take stop text)))
left_start r = record { upto = r.from; here = λ _. refl; row = λ _. r.row; done = λ h. let z = row_some r in absurd (omega arith) }

pub left_row : {text : List ℕ} {stop : ℕ} {sep : List ℕ} {i j : ℕ} {left : List (List ℕ)} → RowAt text stop sep i → RowLeft text stop sep j left → j < stop → RowAt text stop sep j
left_row r l h = record { divides = r.divides; from = l.upto; inside = r.inside; closed = r.closed; row = l.row h }

pub record RowNext (text : List ℕ) (stop : ℕ) (sep : List ℕ) (j j' : ℕ) (left : List (List ℕ)) : Type 0 where
  pub rest : List (List ℕ)
  pub is : left ≡ name_at text j ∷ rest
  pub places : places_from sep j left ≡ j ∷ places_from sep j' rest
  pub state : RowLeft text stop sep j' rest

pub left_turn : {text : List ℕ} {stop : ℕ} {sep : List ℕ} {i j : ℕ} {left : List (List ℕ)} → RowAt text stop sep i → RowLeft text stop sep j left → j < stop → {j' : ℕ} → Steps sep (take stop text) j j' → RowNext text stop sep j j' left
left_turn {text} {stop} {sep} {i} {j} {left} r l h {j'} s = go (dec_lt j' stop)
  where
    long : length (take stop text) ≡ stop
    long = length-take-le stop text r.inside

    name : name_at (take stop text) j ≡ name_at text j
    name = name_line text stop j r.closed l.upto

    go : Dec (j' < stop) → RowNext text stop sep j j' left
    go (yes q) =
        let z : j' < length (take stop text) = let y = long in omega arith in record {
          rest = parts sep (drop j' (take stop text));
          is = l.here h ∙ s.more z ∙ ap (λ w. w ∷ parts sep (drop j' (take stop text))) name;
          places = ap (places_from sep j) (l.here h ∙ s.more z) ∙ ap (λ k. j ∷ places_from sep k (parts sep (drop j' (take stop text)))) (sym (s.place z));
          state = record { upto = omega arith; here = λ _. refl; row = λ _. s.row z; done = λ k. absurd (omega arith) };
        }
    go (no q) =
        let y = long in record {
          rest = [];
          is = l.here h ∙ s.last (omega arith) ∙ ap (λ w. w ∷ []) name;
          places = ap (places_from sep j) (l.here h ∙ s.last (omega arith));
          state = record { upto = omega (arith, s.inside); here = λ k. absurd (q k); row = λ k. absurd (q k); done = λ _. refl };
        }

-- ---- what a line says, by how it is read

-- the line is the equation of x over the names ys, with sep between each and the next
pub record Equates (L : Line) (x sep : List ℕ) (ys : List (List ℕ)) : Type 0 where
  pub by : Connective
  pub divided : between by ≡ sep
  pub is : L ≡ equation x by ys

pub names_is : {L : Line} {x sep : List ℕ} {ys : List (List ℕ)} → Equates L x sep ys → names_of L ≡ x ∷ ys
names_is e = ap names_of e.is

pub rights_is : {L : Line} {x sep : List ℕ} {ys : List (List ℕ)} → Equates L x sep ys → rights_of L ≡ ys
rights_is e = ap rights_of e.is

module _ {text : List ℕ} {L : Line} {x : List ℕ} {at : ℕ} {kind : Option Kind} {stop : ℕ} (l : LineAt text L x at kind stop) where
  row_of : {c : Connective} {sep : List ℕ} {i : ℕ} → Divides letter_or_digit sep → Joined (take stop text) L x at c sep i → RowAt text stop sep i
  row_of d j = record {
    divides = d;
    from = let z = length-take-le stop text l.inside in omega (arith, j.inside);
    inside = l.inside;
    closed = l.closed;
    row = j.row;
  }

  pub or_row : {i : ℕ} → kind ≡ Some (Or i) → RowAt text stop or_word i
  or_row e = row_of or_divides (rw e at l.reads)

  pub or_is : {i : ℕ} → kind ≡ Some (Or i) → Equates L x or_word (parts or_word (drop i (take stop text)))
  or_is e = record { by = by_or; divided = refl; is = (rw e at l.reads).is }

  pub and_row : {i : ℕ} → kind ≡ Some (And i) → RowAt text stop and_word i
  and_row e = row_of and_divides (rw e at l.reads)

  pub and_is : {i : ℕ} → kind ≡ Some (And i) → Equates L x and_word (parts and_word (drop i (take stop text)))
  and_is e = record { by = by_and; divided = refl; is = (rw e at l.reads).is }

  pub least_row : {m i : ℕ} → kind ≡ Some (AtLeast m i) → RowAt text stop comma i
  least_row e = row_of comma_divides (rw e at l.reads).joined

  pub least_is : {m i : ℕ} → kind ≡ Some (AtLeast m i) → Equates L x comma (parts comma (drop i (take stop text)))
  least_is e = record { by = at_least (rw e at l.reads).number; divided = refl; is = (rw e at l.reads).joined.is }

  -- an equation, or no left name
  is_equation_lem : {c : Connective} {sep : List ℕ} {i : ℕ} → Divides letter_or_digit sep → Joined (take stop text) L x at c sep i → IsEquation L x
  is_equation_lem {c} {sep} {i} d j = record { joined = c; first = before sep (drop i (take stop text)); others = rest_of d (drop i (take stop text)); is = j.is ∙ ap (equation x c) (parts_first d (drop i (take stop text))) }

  pub equation_read : is_equation kind ≡ true → IsEquation L x
  equation_read h = go kind h l.reads
    where
      go : (k : Option Kind) → is_equation k ≡ true → Reads (take stop text) L x at k → IsEquation L x
      go None q w = absurd (false≢true q)
      go (Some (Chance v)) q w = absurd (false≢true q)
      go (Some (Or i)) q w = is_equation_lem or_divides w
      go (Some (And i)) q w = is_equation_lem and_divides w
      go (Some (AtLeast m i)) q w = is_equation_lem comma_divides w.joined

  pub other_read : is_equation kind ≡ false → left_of L ≡ []
  other_read h = go kind h l.reads
    where
      go : (k : Option Kind) → is_equation k ≡ false → Reads (take stop text) L x at k → left_of L ≡ []
      go None q w = ap left_of w
      go (Some (Chance v)) q w = ap left_of w.is
      go (Some (Or i)) q w = absurd (true≢false q)
      go (Some (And i)) q w = absurd (true≢false q)
      go (Some (AtLeast m i)) q w = absurd (true≢false q)

-- the line that was just read
pub line_at : {text : List ℕ} {at : ℕ} {kind : Option Kind} {stop next : ℕ} (r : ReadsAt text at kind stop next) → LineAt text r.line (name_at text at) at kind stop
line_at {text} {at} {kind} {stop} {next} r = record {
  inside = r.ends.inside;
  closed = line_closed_name r.ends;
  reads = subst (λ x. Reads (take stop text) r.line x at kind) (name_line text stop at (line_closed_name r.ends) r.ends.from) r.reads;
}
