-- NUMBERS 15 AND 16: where a text's left names are defined, which left name stands twice, and the first wrong line.
-- ls is short for the text's lines, and c the number of its names.
-- Assumes nothing.
use Rattle.std.specs.Prelude.{◌≡◌, Option, Some, None, Result, Ok, Err, ⊤, Bool, true, false, List, [], ◌∷◌, ℕ, suc, ◌-◌, ◌<◌, ◌≤◌, get_or, length, drop, take, set}
use Rattle.paper.specs.Lists.{every}
use Rattle.paper.specs.Grammar.{Line, bad, equation, Connective}
use Rattle.paper.specs.Texts.{Placed, says, lines_from, lines_of}
use Rattle.paper.specs.Equations.{has, names_of, names_in, dict_in, name_in, defined_in, line_in, chance_in, twice_from, twice_in, positive, wrong_from, wrong_in}
use Rattle.paper.specs.Importing.{or_else, Lines}
use Rattle.lines.specs.Reading.{name_at, Capped, Reads}
use Rattle.lines.specs.declared.Kind.{Kind}
use Rattle.lines.specs.declared.Kind.TheVariants.{Chance, Or, And, AtLeast}
use Rattle.scanning.specs.Scanning.{Gathered}
use Rattle.scanning.specs.declared.Refusal.{Refusal}
use Rattle.scanning.specs.declared.Refusal.TheVariants.{WrongLine, DefinedTwice}

abbrev pub is_equation : Option Kind → Bool
is_equation None = false
is_equation (Some (Chance v)) = false
is_equation (Some (Or i)) = true
is_equation (Some (And i)) = true
is_equation (Some (AtLeast k i)) = true

-- one more than a place, and 0 for none
abbrev pub place_code : Option ℕ → ℕ
place_code None = 0
place_code (Some at) = suc at

-- ---- where the names are defined

-- the line is an equation with this left name
pub record IsEquation (l : Line) (x : List ℕ) : Type 0 where
  pub joined : Connective
  pub first : List ℕ
  pub others : List (List ℕ)
  pub is : l ≡ equation x joined (first ∷ others)

-- the line that begins at a defines the name w, and all its names are names of the text
pub record Home (text w : List ℕ) (a : ℕ) : Type 0 where
  pub inside : a < length text
  pub line : Line
  pub rest : List Placed
  pub says : lines_from a (drop a text) ≡ says a line ∷ rest
  pub whose : IsEquation line w
  pub is : line_in w (lines_of text) ≡ line
  pub known : every (λ y. has y (dict_in (lines_of text))) (names_of line) ≡ true

-- the lines before `at` are looked through: F has the places of the names' definitions, t that of a left name that stands twice
pub record Defining (text : List ℕ) (c : ℕ) (F : List ℕ) (t at : ℕ) : Type 0 where
  pub upto : at ≤ length text
  pub room : c ≤ length F
  pub small : t ≤ at
  pub low : (n : ℕ) → n < c → get_or F n 0 ≤ at
  pub each : (n : ℕ) → n < c → or_else (get_or F n 0) (defined_in (name_in (lines_of text) n) (lines_from at (drop at text))) ≡ defined_in (name_in (lines_of text) n) (lines_of text)
  pub seen : List (List ℕ)
  pub marks : (n : ℕ) → n < c → has (name_in (lines_of text) n) seen ≡ positive (get_or F n 0)
  pub twice : or_else t (twice_from seen (lines_from at (drop at text))) ≡ twice_in (lines_of text)
  pub known : every (λ w. has w (dict_in (lines_of text))) (names_in (lines_from at (drop at text))) ≡ true
  pub later : (n : ℕ) → n < c → get_or F n 0 ≡ 0 → line_in (name_in (lines_of text) n) (lines_from at (drop at text)) ≡ line_in (name_in (lines_of text) n) (lines_of text)
  pub homes : (n a : ℕ) → n < c → get_or F n 0 ≡ suc a → Home text (name_in (lines_of text) n) a

-- F has one more than the place of the line that defines name n, or 0 where none does: the name is then an event
pub record Site (text F : List ℕ) (n : ℕ) : Type 0 where
  pub room : n < length F
  pub low : get_or F n 0 ≤ length text
  pub each : get_or F n 0 ≡ defined_in (name_in (lines_of text) n) (lines_of text)
  pub none : get_or F n 0 ≡ 0 → line_in (name_in (lines_of text) n) (lines_of text) ≡ bad
  pub home : (a : ℕ) → get_or F n 0 ≡ suc a → Home text (name_in (lines_of text) n) a

-- so it has for each name
pub record Places (text : List ℕ) (c : ℕ) (F : List ℕ) : Type 0 where
  pub site : (n : ℕ) → n < c → Site text F n

-- all lines are looked through
pub record Defined (text : List ℕ) (c : ℕ) (F : List ℕ) (t : ℕ) : Type 0 where
  pub places : Places text c F
  pub twice : t ≡ twice_in (lines_of text)

-- a line that says L, with left name x, and begins at `at`: how it is read, and where it stops
pub record LineAt (text : List ℕ) (L : Line) (x : List ℕ) (at : ℕ) (kind : Option Kind) (stop : ℕ) : Type 0 where
  pub inside : stop ≤ length text
  pub closed : name_at text stop ≡ []
  pub reads : Reads (take stop text) L x at kind

-- THE LINE THAT DEFINES name n, read again: none where none does
abbrev pub ReadsOf : (text F : List ℕ) (n : ℕ) (kind : Option Kind) (stop : ℕ) → Type 0
ReadsOf text F n kind stop = LineAt text (line_in (name_in (lines_of text) n) (lines_of text)) (name_in (lines_of text) n) (get_or F n 0 - 1) kind stop

-- ---- chances

-- no line before `at` is wrong: M marks the names whose chance is given, G has their chances
pub record Giving (text : List ℕ) (c : ℕ) (M G : List ℕ) (at : ℕ) : Type 0 where
  pub upto : at ≤ length text
  pub marked : c ≤ length M
  pub room : c ≤ length G
  pub given : List (List ℕ)
  pub marks : (n : ℕ) → n < c → has (name_in (lines_of text) n) given ≡ positive (get_or M n 0)
  pub right : wrong_from (lines_of text) given (lines_from at (drop at text)) ≡ wrong_in (lines_of text)
  pub is : (n : ℕ) → n < c → positive (get_or M n 0) ≡ true → Capped (chance_in (name_in (lines_of text) n) (lines_of text)) (get_or G n 0)
  pub none : (n : ℕ) → n < c → positive (get_or M n 0) ≡ false → get_or G n 0 ≡ 0
  pub still : (n : ℕ) → n < c → positive (get_or M n 0) ≡ false → chance_in (name_in (lines_of text) n) (lines_from at (drop at text)) ≡ chance_in (name_in (lines_of text) n) (lines_of text)

-- a chance v for the name w: why it is wrong, or how it is kept
pub data Refused (text : List ℕ) (c : ℕ) (M : List ℕ) (w : List ℕ) : Type 0 where
  unknown : has w (dict_in (lines_of text)) ≡ false → Refused text c M w
  left : positive (defined_in w (lines_of text)) ≡ true → Refused text c M w
  again : (n : ℕ) → n < c → name_in (lines_of text) n ≡ w → positive (get_or M n 0) ≡ true → Refused text c M w

pub record Kept (text : List ℕ) (c : ℕ) (M G : List ℕ) (w : List ℕ) (v : ℕ) (M' G' : List ℕ) : Type 0 where
  pub known : has w (dict_in (lines_of text)) ≡ true
  pub event : positive (defined_in w (lines_of text)) ≡ false
  pub number : ℕ
  pub within : number < c
  pub name : name_in (lines_of text) number ≡ w
  pub only : (k : ℕ) → k < c → name_in (lines_of text) k ≡ w → k ≡ number
  pub fresh : positive (get_or M number 0) ≡ false
  pub marks : M' ≡ set M number 1
  pub chances : G' ≡ set G number v

abbrev pub Tells : (text : List ℕ) (c : ℕ) (M G : List ℕ) (w : List ℕ) (v : ℕ) (M' G' : List ℕ) → Bool → Type 0
Tells text c M G w v M' G' true = Refused text c M w
Tells text c M G w v M' G' false = Kept text c M G w v M' G'

-- the line at `at` is not wrong, and the next one begins there; or it is
abbrev pub Passes : (text : List ℕ) (c : ℕ) (M G : List ℕ) (at : ℕ) → Option ℕ → Type 0
Passes text c M G at (Some next) = (at < next) × Giving text c M G next
Passes text c M G at None = wrong_in (lines_of text) ≡ suc at

-- no line is wrong, and G has each name's chance
pub record Right (text : List ℕ) (c : ℕ) (G : List ℕ) : Type 0 where
  pub none : wrong_in (lines_of text) ≡ 0
  pub each : (n : ℕ) → n < c → Capped (chance_in (name_in (lines_of text) n) (lines_of text)) (get_or G n 0)

abbrev pub Gives : (text : List ℕ) (c : ℕ) (G : List ℕ) → Result ⊤ ℕ → Type 0
Gives text c G (Ok _) = Right text c G
Gives text c G (Err at) = wrong_in (lines_of text) ≡ suc at

-- ---- the scan

-- the names with their places, definitions and chances
pub record Names (text N H X : List ℕ) (c : ℕ) (F G : List ℕ) : Type 0 where
  pub lines : Lines (lines_of text)
  pub gathered : Gathered text N H X c
  pub places : Places text c F
  pub chances : (n : ℕ) → n < c → Capped (chance_in (name_in (lines_of text) n) (lines_of text)) (get_or G n 0)

-- the first wrong line (15), else the first line whose left name stands twice (16)
abbrev pub Refuses : (text : List ℕ) → Refusal → Type 0
Refuses text (WrongLine at) = wrong_in (lines_of text) ≡ suc at
Refuses text (DefinedTwice at) = (wrong_in (lines_of text) ≡ 0) × (twice_in (lines_of text) ≡ suc at)

-- THE SCAN: why the text is refused, or the names
abbrev pub Scans : (text N H X F G : List ℕ) → Result ℕ Refusal → Type 0
Scans text N H X F G (Ok c) = Names text N H X c F G
Scans text N H X F G (Err e) = Refuses text e
