-- THE NAMES OF A TEXT'S EQUATIONS, interned line by line: what the functions that do so answer.
-- Assumes nothing.
use Rattle.std.specs.Prelude.{◌≡◌, true, List, [], ◌∷◌, ◌++◌, ℕ, ◌<◌, ◌≤◌, length, take, drop}
use Rattle.paper.specs.Bytes.{letter_or_digit, parts}
use Rattle.paper.specs.Grammar.{Line, is_row}
use Rattle.paper.specs.Texts.{says, line_feed, lines_from, lines_of}
use Rattle.paper.specs.Equations.{names_of, collect, dict_in}
use Rattle.paper.specs.Spots.{places_of, places_in, firsts, spots_in}
use Rattle.lines.specs.Reading.{name_at, Divides}
use Rattle.names.specs.Interning.{dict_of, Interned}

-- a row of names from place i to the end of a line
pub record RowAt (text : List ℕ) (stop : ℕ) (sep : List ℕ) (i : ℕ) : Type 0 where
  pub divides : Divides letter_or_digit sep
  pub from : i ≤ stop
  pub inside : stop ≤ length text
  pub closed : name_at text stop ≡ []
  pub row : is_row sep (drop i (take stop text)) ≡ true

-- there is room for a name at each place of the text, and no more than i names are known
pub record Room (text N : List ℕ) (c i : ℕ) : Type 0 where
  pub long : length text ≤ length N
  pub low : c ≤ i

-- the names ws, which stand at the places ps, were interned
pub record Gathers (text N : List ℕ) (c : ℕ) (ws : List (List ℕ)) (ps N' H' X' : List ℕ) (c' i : ℕ) : Type 0 where
  pub store : Interned text N' H' X' c'
  pub dict : dict_of text N' c' ≡ collect (dict_of text N c) ws
  pub spots : take c' N' ≡ take c N ++ firsts (dict_of text N c) ws ps
  pub long : length N' ≡ length N
  pub low : c' ≤ i

-- and so were those of the line that begins at `at`
pub record GathersLine (text : List ℕ) (at : ℕ) (N : List ℕ) (c : ℕ) (N' H' X' : List ℕ) (c' next : ℕ) : Type 0 where
  pub line : Line
  pub stop : ℕ
  pub after : at < next
  pub inside : next ≤ length text
  pub says : lines_from at (drop at text) ≡ says at line ∷ lines_from next (drop next text)
  pub places : places_in at (parts line_feed (drop at text)) ≡ places_of at stop line ++ places_in next (parts line_feed (drop next text))
  pub gathers : Gathers text N c (names_of line) (places_of at stop line) N' H' X' c' next

-- lists long enough for the text, whatever they hold
pub record Lists (text N H X : List ℕ) : Type 0 where
  pub long : length text ≤ length N
  pub linked : length N ≤ length X
  pub chains : 1 ≤ length H
  pub small : length N ≤ 4294967295

-- THE NAMES of the text are interned, each with the place where it stands first
pub record Gathered (text N H X : List ℕ) (c : ℕ) : Type 0 where
  pub store : Interned text N H X c
  pub low : c ≤ length text
  pub dict : dict_of text N c ≡ dict_in (lines_of text)
  pub spots : take c N ≡ spots_in text
