-- What a report call answers and leaves in the room and in its work areas, for any arguments.
-- Assumes nothing.
use Rattle.std.specs.Prelude.{◌≡◌, ◌↔◌, Bool, true, false, List, ◌++◌, ℕ, ◌/◌, ◌≤◌, length, drop, replicate}
use Rattle.paper.specs.Lists.{In, keep, last_or}
use Rattle.paper.specs.Sets.{Set}
use Rattle.paper.specs.Diagrams.{Diagram}
use Rattle.paper.specs.Cuts.{sets_of}
use Rattle.paper.specs.Order.{Before}
use Rattle.paper.specs.Listing.{sets_bytes, fitting}
use Rattle.paper.specs.Answers.{Beyond}
use Rattle.paper.specs.Reports.{is_edition}
use Rattle.sets.specs.Words.{words, set_of}
use Rattle.tables.specs.Table.{den}
use Rattle.tables.specs.Lent.{Lent}
use Rattle.walk.specs.After.{to_list}
use Rattle.bracket.specs.Bracketed.{Chances}
use Rattle.listing.specs.Answers.{start_of, GoodStart, Short}
use Rattle.review.specs.Hopes.{worth}

-- the sets that a call has to report: of those to list, the ones that are reportable under edition r for the chances A
abbrev pub to_report : ℕ → List ℕ → ℕ → Diagram → Bool → List ℕ → List Set
to_report r A n d begin ws = keep (worth r A n) (to_list n d begin ws)

-- not 9: a chance for each of the n events, and a number in both work areas for each node that the table T has room for
pub record Enough (n : ℕ) (T A F W : List ℕ) : Type 0 where
  pub chances : n ≤ length A
  pub few : length T / 3 ≤ length F
  pub picks : length T / 3 ≤ length W

-- no reportable set of the family comes after S
abbrev pub NoneAfter : ℕ → List ℕ → ℕ → Diagram → Set → Type 0
NoneAfter r A n d S = (T : Set) → In T (sets_of d) → worth r A n T ≡ true → Before S T → ⊥

-- a refusal with number m: nothing is written into the room, and all else is zero, the empty set, and "not finished"
pub record Refused (m : ℕ) (room room' : List ℕ) (edition number place count used : ℕ) (last : List ℕ) (finished : Bool) : Type 0 where
  pub no_edition : edition ≡ 0
  pub is : number ≡ m
  pub no_place : place ≡ 0
  pub no_cut : count ≡ 0
  pub no_byte : used ≡ 0
  pub empty_set : last ≡ replicate words 0
  pub unfinished : finished ≡ false
  pub kept : room' ≡ room

-- number 0 under edition r: the sets w are written, for a family d and a start S; the bytes behind them stay; finished exactly if no reportable set comes after the last
pub record Written (r : ℕ) (A : List ℕ) (n : ℕ) (d : Diagram) (S : Set) (w : List Set) (room room' : List ℕ) (edition number place count used : ℕ) (last : List ℕ) (finished : Bool) : Type 0 where
  pub names : edition ≡ r
  pub is : number ≡ 0
  pub no_place : place ≡ 0
  pub cuts : count ≡ length w
  pub long : used ≡ length (sets_bytes n w)
  pub bytes : room' ≡ sets_bytes n w ++ drop used room
  pub last_set : set_of last ≡ last_or S w
  pub end : (finished ≡ true) ↔ NoneAfter r A n d (set_of last)

-- the work areas stay as they were; or they hold zero to their last number
pub record Untouched (F F' W W' : List ℕ) : Type 0 where
  pub few : F' ≡ F
  pub picks : W' ≡ W

pub record Cleared (F F' W W' : List ℕ) : Type 0 where
  pub few : F' ≡ replicate (length F) 0
  pub picks : W' ≡ replicate (length W) 0

-- THE CONTRACT of `report`, asked for edition r: 23, then 12, 9, 7, 13, 14; else as many whole reportable sets as fit, in order, of those after the start
pub data Answered (r n : ℕ) (T : List ℕ) (c root : ℕ) (A : List ℕ) (begin : Bool) (ws room room' F F' W W' : List ℕ) (edition number place count used : ℕ) (last : List ℕ) (finished : Bool) : Type 0 where
  no_edition : is_edition r ≡ false → Refused 23 room room' edition number place count used last finished → Untouched F F' W W'
      → Answered r n T c root A begin ws room room' F F' W W' edition number place count used last finished
  no_diagram : is_edition r ≡ true → (Lent true n T c root → ⊥) → Refused 12 room room' edition number place count used last finished → Untouched F F' W W'
      → Answered r n T c root A begin ws room room' F F' W W' edition number place count used last finished
  too_short : is_edition r ≡ true → Lent true n T c root → (Enough n T A F W → ⊥) → Refused 9 room room' edition number place count used last finished → Untouched F F' W W'
      → Answered r n T c root A begin ws room room' F F' W W' edition number place count used last finished
  no_chance : is_edition r ≡ true → Lent true n T c root → Enough n T A F W → (Chances n A → ⊥) → Refused 7 room room' edition number place count used last finished → Untouched F F' W W'
      → Answered r n T c root A begin ws room room' F F' W W' edition number place count used last finished
  beyond : is_edition r ≡ true → Lent true n T c root → Enough n T A F W → Chances n A → begin ≡ false → Beyond n (set_of ws)
      → Refused 13 room room' edition number place count used last finished → Untouched F F' W W'
      → Answered r n T c root A begin ws room room' F F' W W' edition number place count used last finished
  short : is_edition r ≡ true → Lent true n T c root → Enough n T A F W → Chances n A → GoodStart n begin ws → Short n (length room) (to_report r A n (den T root) begin ws)
      → Refused 14 room room' edition number place count used last finished → Cleared F F' W W'
      → Answered r n T c root A begin ws room room' F F' W W' edition number place count used last finished
  done : is_edition r ≡ true → Lent true n T c root → Enough n T A F W → Chances n A → GoodStart n begin ws → (Short n (length room) (to_report r A n (den T root) begin ws) → ⊥)
      → Written r A n (den T root) (start_of begin ws) (fitting n (length room) (to_report r A n (den T root) begin ws)) room room' edition number place count used last finished → Cleared F F' W W'
      → Answered r n T c root A begin ws room room' F F' W W' edition number place count used last finished
