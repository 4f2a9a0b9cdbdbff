-- WHAT AN IMPORT IS LENT: eleven lists of 32-bit numbers, nine to work in and two that are answers.
-- Assumes nothing.
use Rattle.std.specs.Prelude.{◌≡◌, List, ℕ, ◌<◌, length, replicate}

pub record Lists : Type 0 where
  pub heads : List ℕ
  pub next : List ℕ
  pub names : List ℕ
  pub defs : List ℕ
  pub marks : List ℕ
  pub amounts : List ℕ
  pub starts : List ℕ
  pub rights : List ℕ
  pub order : List ℕ
  pub ring : List ℕ
  pub shown : List ℕ

abbrev pub lists : List ℕ → List ℕ → List ℕ → List ℕ → List ℕ → List ℕ → List ℕ → List ℕ → List ℕ → List ℕ → List ℕ → Lists
lists heads next names defs marks amounts starts rights order ring shown = record {
  heads = heads;
  next = next;
  names = names;
  defs = defs;
  marks = marks;
  amounts = amounts;
  starts = starts;
  rights = rights;
  order = order;
  ring = ring;
  shown = shown;
}

-- NUMBER 9 is not due for a text of so many bytes: each list has one number more, and each place of the text is a number of 32 bits
pub record Long (size : ℕ) (l : Lists) : Type 0 where
  pub small : size < 4_294_967_295
  pub heads : size < length l.heads
  pub next : size < length l.next
  pub names : size < length l.names
  pub defs : size < length l.defs
  pub marks : size < length l.marks
  pub amounts : size < length l.amounts
  pub starts : size < length l.starts
  pub rights : size < length l.rights
  pub order : size < length l.order
  pub ring : size < length l.ring
  pub shown : size < length l.shown

-- the two halves of it that are tested
pub record NamesFit (size : ℕ) (H X N F M A : List ℕ) : Type 0 where
  pub heads : size < length H
  pub next : size < length X
  pub names : size < length N
  pub defs : size < length F
  pub marks : size < length M
  pub amounts : size < length A

pub record OrderFits (size : ℕ) (S I Q R W : List ℕ) : Type 0 where
  pub starts : size < length S
  pub rights : size < length I
  pub order : size < length Q
  pub ring : size < length R
  pub shown : size < length W

-- zero to the last number
abbrev pub Zeroed : List ℕ → List ℕ → Type 0
Zeroed l l' = l' ≡ replicate (length l) 0

-- the nine lists to work in are zero
pub record Worked (l l' : Lists) : Type 0 where
  pub heads : Zeroed l.heads l'.heads
  pub next : Zeroed l.next l'.next
  pub names : Zeroed l.names l'.names
  pub defs : Zeroed l.defs l'.defs
  pub marks : Zeroed l.marks l'.marks
  pub amounts : Zeroed l.amounts l'.amounts
  pub starts : Zeroed l.starts l'.starts
  pub rights : Zeroed l.rights l'.rights
  pub order : Zeroed l.order l'.order
