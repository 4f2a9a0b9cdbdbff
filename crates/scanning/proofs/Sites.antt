-- THE LINE THAT DEFINES A NAME: read again, it is that line; a name is an event exactly if no line defines it.
-- Assumes nothing.
use mathlib.Core.Path.{◌≡◌, refl, sym, ap, ◌∙◌, subst}
use mathlib.Core.Bool.{true, not}
use Rattle.std.specs.Prelude.{Option, Some, None}
use mathlib.Core.List.{List, [], ◌∷◌}
use Prim.Native.Nat.{ℕ, zero, suc, ◌-◌, ◌<◌}
use native.Mathlib.Omega.{arith}
use lib.ListN.{get_or, length, take}
use Rattle.paper.specs.Lists.{every}
use Rattle.paper.specs.Bytes.{letter_or_digit, lead}
use Rattle.paper.specs.Grammar.{Line, bad, chance, equation, Connective}
use Rattle.paper.specs.Texts.{Placed, says, lines_of}
use Rattle.paper.specs.Equations.{has, numbers, names_of, dict_in, name_in, left_of, rights_of, line_in, inputs_in, positive}
use Rattle.paper.specs.Walks.{is_event}
use Rattle.lines.specs.Reading.{name_at, Reads, ReadsAt}
use Rattle.lines.specs.declared.Kind.{Kind}
use Rattle.lines.specs.declared.Kind.TheVariants.{Chance, Or, And, AtLeast}
use Rattle.scanning.specs.Judged.{IsEquation, Home, Site, Places, ReadsOf}
use Rattle.lines.proofs.Leads.{lead_none, drop_at_end}
use Rattle.lines.proofs.Tests.{and_second}
use Rattle.scanning.proofs.Rows.{line_at}

pub site_at : {text : List ℕ} {c : ℕ} {F : List ℕ} {n : ℕ} → Places text c F → n < c → Site text F n
site_at {n = n} l h = l.site n h

-- ---- the line read again

pub no_line : {text F : List ℕ} {n : ℕ} → Site text F n → get_or F n 0 ≡ 0 → ReadsOf text F n None (length text)
no_line {text} {F} {n} s e = record {
  inside = omega arith;
  closed = ap (lead letter_or_digit) (drop_at_end text (length text) (omega arith)) ∙ lead_none letter_or_digit;
  reads = s.none e;
}

abbrev head_line : List Placed → Line
head_line [] = bad
head_line (says at l ∷ ls) = l

abbrev head_name : List (List ℕ) → List ℕ
head_name [] = []
head_name (w ∷ ws) = w

-- a line that is an equation of w, read, has the left name w
left_is : (s : List ℕ) (L : Line) (x w : List ℕ) (at : ℕ) → IsEquation L w → (k : Option Kind) → Reads s L x at k → Reads s L w at k
left_is s L x w at q k r = go k r
  where
    own : {c : Connective} {ys : List (List ℕ)} → L ≡ equation x c ys → x ≡ w
    own e = ap (λ l. head_name (left_of l)) (sym e ∙ q.is)

    go : (k : Option Kind) → Reads s L x at k → Reads s L w at k
    go None a = a
    go (Some (Chance v)) a = a
    go (Some (Or i)) a = subst (λ y. Reads s L y at (Some (Or i))) (own a.is) a
    go (Some (And i)) a = subst (λ y. Reads s L y at (Some (And i))) (own a.is) a
    go (Some (AtLeast m i)) a = subst (λ y. Reads s L y at (Some (AtLeast m i))) (own a.joined.is) a

module _ {text F : List ℕ} {n : ℕ} (s : Site text F n) (some : get_or F n 0 ≡ 0 → ⊥) {p : ℕ} (ep : p ≡ get_or F n 0) where
  its_home : Home text (name_in (lines_of text) n) (p - 1)
  its_home = s.home (p - 1) (omega arith)

  pub home_room : p - 1 < length text
  home_room = its_home.inside

  pub its_line : {kind : Option Kind} {stop next : ℕ} → ReadsAt text (p - 1) kind stop next → ReadsOf text F n kind stop
  its_line {kind} {stop} r =
      let e : r.line ≡ its_home.line = ap head_line (sym r.says ∙ its_home.says) in
      let a = line_at r in
      let z : p - 1 ≡ get_or F n 0 - 1 = ap (λ k. k - 1) ep in
      record {
        inside = a.inside;
        closed = a.closed;
        reads = subst (λ k. Reads (take stop text) (line_in (name_in (lines_of text) n) (lines_of text)) (name_in (lines_of text) n) k kind) z
            (left_is (take stop text) (line_in (name_in (lines_of text) n) (lines_of text)) (name_at text (p - 1)) (name_in (lines_of text) n) (p - 1) (subst (λ l. IsEquation l (name_in (lines_of text) n)) (sym its_home.is) its_home.whose) kind
            (subst (λ l. Reads (take stop text) l (name_at text (p - 1)) (p - 1) kind) (e ∙ sym its_home.is) a.reads));
      }

-- ---- events and inputs

module _ {text F : List ℕ} {n : ℕ} (s : Site text F n) where
  abbrev ls : List Placed
  ls = lines_of text

  -- AN EVENT is a name that no line defines, and it has no inputs
  pub event_site : is_event (inputs_in ls n) ≡ not (positive (get_or F n 0))
  unfolding inputs_in
  event_site = go (get_or F n 0) refl
    where
      go : (d : ℕ) → get_or F n 0 ≡ d → is_event (numbers (dict_in ls) (rights_of (line_in (name_in ls n) ls))) ≡ not (positive d)
      go zero e = ap (λ l. is_event (numbers (dict_in ls) (rights_of l))) (s.none e)
      go (suc a) e = ap (λ l. is_event (numbers (dict_in ls) (rights_of l))) ((s.home a e).is ∙ (s.home a e).whose.is)

  -- the inputs are names of the text
  pub rights_known : every (λ y. has y (dict_in ls)) (rights_of (line_in (name_in ls n) ls)) ≡ true
  rights_known = go (get_or F n 0) refl
    where
      of_line : (l : Line) → every (λ y. has y (dict_in ls)) (names_of l) ≡ true → every (λ y. has y (dict_in ls)) (rights_of l) ≡ true
      of_line bad h = refl
      of_line (chance x k) h = refl
      of_line (equation x c ys) h = and_second (has x (dict_in ls)) (every (λ y. has y (dict_in ls)) ys) h

      go : (d : ℕ) → get_or F n 0 ≡ d → every (λ y. has y (dict_in ls)) (rights_of (line_in (name_in ls n) ls)) ≡ true
      go zero e = ap (λ l. every (λ y. has y (dict_in ls)) (rights_of l)) (s.none e)
      go (suc a) e = ap (λ l. every (λ y. has y (dict_in ls)) (rights_of l)) (s.home a e).is ∙ of_line (s.home a e).line (s.home a e).known
