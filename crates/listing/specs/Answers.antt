-- What a listing call answers and leaves in the room, for any arguments.
-- Assumes nothing.
use Rattle.std.specs.Prelude.{◌≡◌, ◌↔◌, Bool, true, false, List, [], ◌∷◌, ◌++◌, ℕ, ◌<◌, length, drop, replicate}
use Rattle.paper.specs.Lists.{In, last_or}
use Rattle.paper.specs.Sets.{Set, none}
use Rattle.paper.specs.Diagrams.{Diagram}
use Rattle.paper.specs.Cuts.{sets_of}
use Rattle.paper.specs.Order.{Before}
use Rattle.paper.specs.Listing.{set_bytes, sets_bytes, fitting}
use Rattle.paper.specs.Answers.{Beyond}
use Rattle.sets.specs.Words.{words, set_of}
use Rattle.tables.specs.Table.{den}
use Rattle.tables.specs.Lent.{Lent}
use Rattle.walk.specs.After.{to_list}

-- the set that a call starts after: the empty set from the beginning
abbrev pub start_of : Bool → List ℕ → Set
start_of true ws = none
start_of false ws = set_of ws

-- 13 is not due: the call starts from the beginning, or after a set of the n events
abbrev pub GoodStart : ℕ → Bool → List ℕ → Type 0
GoodStart n begin ws = begin ≡ false → Beyond n (set_of ws) → ⊥

-- there is a first of the sets l, and so many bytes are too few for it
abbrev pub Short : ℕ → ℕ → List Set → Type 0
Short n size [] = ⊥
Short n size (S ∷ l) = size < length (set_bytes n S)

-- no set of the family comes after S
abbrev pub NoneAfter : Diagram → Set → Type 0
NoneAfter d S = (T : Set) → In T (sets_of d) → Before S T → ⊥

-- a refusal with number m: nothing is written, and all else is zero, the empty set, and "not finished"
pub record Refused (m : ℕ) (room room' : List ℕ) (number place count used : ℕ) (last : List ℕ) (finished : Bool) : Type 0 where
  pub is : number ≡ m
  pub no_place : place ≡ 0
  pub no_cut : count ≡ 0
  pub no_byte : used ≡ 0
  pub empty_set : last ≡ replicate words 0
  pub unfinished : finished ≡ false
  pub kept : room' ≡ room

-- number 0: the sets w are written, for a family d and a start S; the bytes behind them stay; finished exactly if no set comes after the last
pub record Written (n : ℕ) (d : Diagram) (S : Set) (w : List Set) (room room' : List ℕ) (number place count used : ℕ) (last : List ℕ) (finished : Bool) : Type 0 where
  pub is : number ≡ 0
  pub no_place : place ≡ 0
  pub cuts : count ≡ length w
  pub long : used ≡ length (sets_bytes n w)
  pub bytes : room' ≡ sets_bytes n w ++ drop used room
  pub last_set : set_of last ≡ last_or S w
  pub end : (finished ≡ true) ↔ NoneAfter d (set_of last)

-- THE CONTRACT of `list`: 12, then 13, then 14; else as many whole sets as fit, in order, of those after the start
pub data Answered (n : ℕ) (T : List ℕ) (c root : ℕ) (begin : Bool) (ws room room' : List ℕ) (number place count used : ℕ) (last : List ℕ) (finished : Bool) : Type 0 where
  no_diagram : (Lent true n T c root → ⊥) → Refused 12 room room' number place count used last finished → Answered n T c root begin ws room room' number place count used last finished
  beyond : Lent true n T c root → begin ≡ false → Beyond n (set_of ws) → Refused 13 room room' number place count used last finished → Answered n T c root begin ws room room' number place count used last finished
  short : Lent true n T c root → GoodStart n begin ws → Short n (length room) (to_list n (den T root) begin ws)
      → Refused 14 room room' number place count used last finished → Answered n T c root begin ws room room' number place count used last finished
  done : Lent true n T c root → GoodStart n begin ws → (Short n (length room) (to_list n (den T root) begin ws) → ⊥)
      → Written n (den T root) (start_of begin ws) (fitting n (length room) (to_list n (den T root) begin ws)) room room' number place count used last finished
      → Answered n T c root begin ws room room' number place count used last finished
