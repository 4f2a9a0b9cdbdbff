-- What the functions that read lines answer. s is a text up to the end of a line, or a whole text; places are offsets in it.
-- Assumes nothing.
use Rattle.std.specs.Prelude.{◌≡◌, ◌⊎◌, Option, Some, None, Bool, true, false, List, [], ◌∷◌, ◌++◌, ℕ, ◌+◌, ◌<◌, ◌≤◌, length, drop, take}
use Rattle.paper.specs.Bytes.{letter_or_digit, in_line, lead, past, parts}
use Rattle.paper.specs.Grammar.{Line, bad, chance, equation, Connective, by_or, by_and, at_least, is_name, is_row, or_word, and_word, comma}
use Rattle.paper.specs.Texts.{says, line_feed, lines_from}
use Rattle.paper.specs.Spots.{places_of, places_in}
use Rattle.lines.specs.declared.Kind.{Kind}
use Rattle.lines.specs.declared.Kind.TheVariants.{Chance, Or, And, AtLeast}

-- THE NAME at a place: the letters and digits from there on
abbrev pub name_at : List ℕ → ℕ → List ℕ
name_at s i = lead letter_or_digit (drop i s)

-- the bytes from i on that pass the test end at e
pub record Ends (p : ℕ → Bool) (s : List ℕ) (i e : ℕ) : Type 0 where
  pub from : i ≤ e
  pub inside : e ≤ length s
  pub size : e ≡ i + length (lead p (drop i s))
  pub rest : drop e s ≡ past p (drop i s)

-- sep is not empty, and its first byte does not pass the test
pub record Divides (p : ℕ → Bool) (sep : List ℕ) : Type 0 where
  pub first : ℕ
  pub others : List ℕ
  pub is : sep ≡ first ∷ others
  pub out : p first ≡ false

-- r is n, or both are at least 2^32 - 1 and r is that
pub record Capped (n r : ℕ) : Type 0 where
  pub low : r ≤ 4294967295
  pub is : (r ≡ n) ⊎ ((r ≡ 4294967295) × (r ≤ n))

pub record Given (s : List ℕ) (L : Line) (at v : ℕ) : Type 0 where
  pub inside : at + 2 ≤ length s
  pub number : ℕ
  pub capped : Capped number v
  pub is : L ≡ chance (name_at s (at + 2)) number

-- an equation whose right names stand from place i on, with sep between
pub record Joined (s : List ℕ) (L : Line) (x : List ℕ) (at : ℕ) (c : Connective) (sep : List ℕ) (i : ℕ) : Type 0 where
  pub after : at < i
  pub inside : i ≤ length s
  pub row : is_row sep (drop i s) ≡ true
  pub is : L ≡ equation x c (parts sep (drop i s))

pub record Counted (s : List ℕ) (L : Line) (x : List ℕ) (at k i : ℕ) : Type 0 where
  pub number : ℕ
  pub capped : Capped number k
  pub joined : Joined s L x at (at_least number) comma i

-- WHAT IS READ of a line that says L and begins at `at`: x is its left name
abbrev pub Reads : List ℕ → Line → List ℕ → ℕ → Option Kind → Type 0
Reads s L x at None = L ≡ bad
Reads s L x at (Some (Chance v)) = Given s L at v
Reads s L x at (Some (Or i)) = Joined s L x at by_or or_word i
Reads s L x at (Some (And i)) = Joined s L x at by_and and_word i
Reads s L x at (Some (AtLeast k i)) = Counted s L x at k i

-- a line of a text: what it says, how it is read, where it stops, where its names stand, and where the next one begins
pub record ReadsAt (text : List ℕ) (at : ℕ) (kind : Option Kind) (stop next : ℕ) : Type 0 where
  pub line : Line
  pub after : at < next
  pub inside : next ≤ length text
  pub stops : stop ≤ next
  pub ends : Ends in_line text at stop
  pub says : lines_from at (drop at text) ≡ says at line ∷ lines_from next (drop next text)
  pub places : places_in at (parts line_feed (drop at text)) ≡ places_of at stop line ++ places_in next (parts line_feed (drop next text))
  pub reads : Reads (take stop text) line (name_at (take stop text) at) at kind

-- the name at place i of a row, and the next one's place r: s's length where there is none
pub record Steps (sep s : List ℕ) (i r : ℕ) : Type 0 where
  pub after : i < r
  pub inside : r ≤ length s
  pub name : is_name (name_at s i) ≡ true
  pub last : length s ≤ r → parts sep (drop i s) ≡ name_at s i ∷ []
  pub more : r < length s → parts sep (drop i s) ≡ name_at s i ∷ parts sep (drop r s)
  pub row : r < length s → is_row sep (drop r s) ≡ true
  pub place : r < length s → r ≡ i + length (name_at s i) + length sep
