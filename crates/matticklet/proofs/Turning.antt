-- From a room to a page, and from page to page.
-- Assumes nothing.
use mathlib.Core.Path.{◌≡◌, refl, sym, ap, ap₂, ◌∙◌, subst}
use mathlib.Core.Bool.{Bool, true}
use mathlib.Core.List.{List, [], ◌∷◌, ◌++◌, append_assoc, append-nil}
use Prim.Native.Nat.{ℕ}
use lib.ListN.{take}
use Rattle.paper.specs.Sets.{Set, members}
use Rattle.paper.specs.Trees.{Tree, events, root_fun}
use Rattle.paper.specs.Diagrams.{Diagram}
use Rattle.paper.specs.Cuts.{cut_list}
use Rattle.tables.specs.Table.{den}
use Rattle.walk.specs.After.{to_list}
use Rattle.memory.specs.Memory.{Memory}
use Rattle.memory.specs.Outcome.{Done}
use Rattle.memory.specs.Analysis.{Analysis}
use Rattle.followup.specs.Rooms.{Next}
use Rattle.followup.proofs.Rooms.{fewer}
use Rattle.text.specs.Lines.{cut_line, cut_lines}
use Rattle.text.specs.Places.{Front, spelled}
use Rattle.text.specs.declared.cuts.Place.TheVariants.{Start}
use Rattle.text.proofs.Spelling.{spelled_lines}
use Rattle.matticklet.specs.Pages.{Page, Pages}

-- the text of a room's bytes is a page
pub room_page : {n : ℕ} {d : Diagram} {begin : Bool} {ws room' : List ℕ} {number place count used : ℕ} {last : List ℕ} {finished : Bool} {text' : List ℕ} {end : ℕ}
    → Next n d begin ws room' number place count used last finished → Front end text' (spelled Start (take used room')) → Page n d begin ws text' end last finished
room_page {n} {text' = text'} {end} x f = record {
  written = x.written;
  left = x.left;
  whole = x.whole;
  after = x.after;
  within = x.within;
  lines = subst (λ (s : List ℕ). Front end text' s) (ap (spelled Start) x.bytes ∙ spelled_lines n x.written) f;
  end_is = x.end;
  fewer = fewer x;
}

-- ---- page after page

lines_append : (n : ℕ) (w q : List Set) → cut_lines n (w ++ q) ≡ cut_lines n w ++ cut_lines n q
lines_append n [] q = refl
lines_append n (S ∷ w) q = ap (λ (x : List ℕ). cut_line (members n S) ++ x) (lines_append n w q) ∙ sym (append_assoc (cut_line (members n S)) (cut_lines n w) (cut_lines n q))

pub pages_are : {n : ℕ} {d : Diagram} {begin : Bool} {ws text : List ℕ} → Pages n d begin ws text → text ≡ cut_lines n (to_list n d begin ws)
pages_are {n} (Pages.ends p) = p.lines.1 ∙ ap (cut_lines n) (sym (p.whole ∙ ap (λ (x : List Set). p.written ++ x) (p.end_is.0 refl) ∙ append-nil p.written))
pages_are {n} (Pages.goes p more) =
    ap₂ (λ (x y : List ℕ). x ++ y) p.lines.1 (pages_are more ∙ ap (cut_lines n) p.after) ∙ sym (lines_append n p.written p.left) ∙ ap (cut_lines n) (sym p.whole)

-- THE LINES of a done analysis' cuts: one for each minimal cut, in order
pub lines_are_cuts : {t : Tree} {m m' : Memory} {a : Analysis} {ws text : List ℕ} → Done t m m' a → Pages (events t) (den m'.cuts a.cut_root) true ws text
    → text ≡ cut_lines (events t) (cut_list (events t) (root_fun t.gates))
lines_are_cuts {t} d p = pages_are p ∙ ap (cut_lines (events t)) d.cuts_are
