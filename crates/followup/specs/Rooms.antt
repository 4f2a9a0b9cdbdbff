-- The next room of a listing.
-- Assumes nothing.
use Rattle.std.specs.Prelude.{◌≡◌, ◌↔◌, Bool, true, false, List, [], ◌++◌, ℕ, ◌≤◌, ◌<◌, length, take}
use Rattle.paper.specs.Limits.{limits}
use Rattle.paper.specs.Sets.{Set}
use Rattle.paper.specs.Diagrams.{Diagram}
use Rattle.paper.specs.Listing.{sets_bytes, longest_cut}
use Rattle.walk.specs.After.{to_list}
use Rattle.listing.specs.Answers.{GoodStart}

-- no cut has more bytes
abbrev pub longest : ℕ
longest = longest_cut limits.events

-- THE NEXT ROOM: the call is answered 0, and the sets that were to be listed are those that it wrote and those after its last set
pub record Next (n : ℕ) (d : Diagram) (begin : Bool) (ws room' : List ℕ) (number place count used : ℕ) (last : List ℕ) (finished : Bool) : Type 0 where
  pub is : number ≡ 0
  pub no_place : place ≡ 0
  pub written : List Set
  pub left : List Set
  pub whole : to_list n d begin ws ≡ written ++ left
  pub after : to_list n d false last ≡ left
  pub within : GoodStart n false last
  pub inside : used ≤ length room'
  pub bytes : take used room' ≡ sets_bytes n written
  pub cuts : count ≡ length written
  pub end : (finished ≡ true) ↔ (left ≡ [])
  pub on : finished ≡ false → 0 < count
