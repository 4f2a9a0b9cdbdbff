-- The lines of the cuts, page by page.
-- Assumes nothing.
use Rattle.std.specs.Prelude.{◌≡◌, ◌↔◌, Bool, true, false, List, [], ◌++◌, ℕ, ◌<◌, length, take}
use Rattle.paper.specs.Sets.{Set}
use Rattle.paper.specs.Diagrams.{Diagram}
use Rattle.walk.specs.After.{to_list}
use Rattle.listing.specs.Answers.{GoodStart}
use Rattle.text.specs.Lines.{cut_lines}
use Rattle.text.specs.Places.{Front}

-- A PAGE of the family d from a start: the text begins with a line for each of the next cuts, and those after the last of them are left
pub record Page (n : ℕ) (d : Diagram) (begin : Bool) (ws text' : List ℕ) (end : ℕ) (last : List ℕ) (finished : Bool) : Type 0 where
  pub written : List Set
  pub left : List Set
  pub whole : to_list n d begin ws ≡ written ++ left
  pub after : to_list n d false last ≡ left
  pub within : GoodStart n false last
  pub lines : Front end text' (cut_lines n written)
  pub end_is : (finished ≡ true) ↔ (left ≡ [])
  pub fewer : finished ≡ false → length (to_list n d false last) < length (to_list n d begin ws)

-- pages one after another, the last of them finished, and their lines joined
pub data Pages (n : ℕ) (d : Diagram) : Bool → List ℕ → List ℕ → Type 0 where
  ends : {begin : Bool} {ws text' : List ℕ} {end : ℕ} {last : List ℕ} → Page n d begin ws text' end last true → Pages n d begin ws (take end text')
  goes : {begin : Bool} {ws text' : List ℕ} {end : ℕ} {last : List ℕ} {finished : Bool} {more : List ℕ} → Page n d begin ws text' end last finished → Pages n d false last more
      → Pages n d begin ws (take end text' ++ more)
