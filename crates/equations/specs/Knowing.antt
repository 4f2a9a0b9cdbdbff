-- WHAT IS KNOWN of a text's names on the way to its tree. c is how many there are; by name: N has the place of first appearance, F one more than
-- the place of the defining line, G the chance; S and I have the inputs. W is the list that the places are shown in.
-- Assumes nothing.
use Rattle.std.specs.Prelude.{◌≡◌, List, ℕ, suc, ◌<◌, ◌≤◌, get_or, length, take, replicate}
use Rattle.paper.specs.Texts.{lines_of}
use Rattle.paper.specs.Equations.{dict_in, inputs_in}
use Rattle.paper.specs.Walks.{OneRoot}
use Rattle.paper.specs.Meaning.{chance_for}
use Rattle.paper.specs.Importing.{Lines}
use Rattle.paper.specs.Spots.{spots_in}
use Rattle.lines.specs.Reading.{Capped}
use Rattle.scanning.specs.Judged.{Places}
use Rattle.depthfirst.specs.Inputs.{inputs_of, Arrays}
use Rattle.depthfirst.specs.Marking.{Rooms}
use Rattle.depthfirst.specs.Answers.{InOrder, AllInOrder}
use Rattle.equations.specs.Lists.{Lists, Long}

-- all zero
abbrev pub Blank : List ℕ → Type 0
Blank l = l ≡ replicate (length l) 0

-- the lists are long enough for a text of so many bytes; a ring on the first of them can be shown; nothing is shown yet
pub record Ready (size : ℕ) (l : Lists) : Type 0 where
  pub long : Long size l
  pub round : length l.heads ≤ length l.ring
  pub ring : Blank l.ring
  pub shown : Blank l.shown

-- the lists that names are interned in are as long as the text is, and one more
pub record Cut (size : ℕ) (H X N : List ℕ) : Type 0 where
  pub heads : length H ≡ suc size
  pub next : length X ≡ suc size
  pub names : length N ≡ suc size

pub record Known (text : List ℕ) (c : ℕ) (N F G S I : List ℕ) : Type 0 where
  pub lines : Lines (lines_of text)
  pub count : c ≡ length (dict_in (lines_of text))
  pub arrays : Arrays S I c
  pub same : (x : ℕ) → x < c → inputs_of S I x ≡ inputs_in (lines_of text) x
  pub places : Places text c F
  pub chances : (n : ℕ) → n < c → Capped (chance_for (lines_of text) n) (get_or G n 0)
  pub spots : take c N ≡ spots_in text

-- each list has room for c names, and nothing is shown yet
pub record Room (c : ℕ) (N G M K A Q W : List ℕ) : Type 0 where
  pub names : c ≤ length N
  pub amounts : c ≤ length G
  pub rooms : Rooms c M K A Q
  pub shown : c ≤ length W
  pub blank : Blank W

-- no name leads back to itself, and the first `left` numbers of Q are the order of the walk from the one root
pub record Climbed (S I : List ℕ) (c : ℕ) (Q : List ℕ) (left : ℕ) : Type 0 where
  pub root : ℕ
  pub before : List ℕ
  pub all : AllInOrder S I c before c
  pub one : OneRoot (inputs_of S I) c root
  pub way : InOrder S I c root Q left
