-- THE REPORT: what `report` answers on the cut table of a done analysis of the tree t, under each edition of the review rule.
-- Assumes nothing.
use Rattle.std.specs.Prelude.{◌≡◌, ◌≢◌, ◌↔◌, Bool, true, false, List, ℕ, ◌≤◌, ◌<◌, length}
use Rattle.paper.specs.Limits.{billion}
use Rattle.paper.specs.Lists.{In, Once, keep}
use Rattle.paper.specs.Sets.{Set, Within}
use Rattle.paper.specs.Trees.{Tree, events, root_fun}
use Rattle.paper.specs.Cuts.{MinimalCut, cut_list}
use Rattle.paper.specs.Order.{Sorted}
use Rattle.paper.specs.Listing.{sets_bytes, longest_cut}
use Rattle.paper.specs.Reports.{is_edition, reportable}
use Rattle.listing.specs.Answers.{GoodStart}
use Rattle.bracket.specs.Bracketed.{chance_in}
use Rattle.report.specs.Answers.{Answered}
use Rattle.report.specs.Joined.{Joined}
use Rattle.memory.specs.Memory.{Memory, capacity}
use Rattle.memory.specs.Analysis.{Analysis}
use Rattle.promises.specs.Delivers.{Own}

-- reportable under edition r, by the tree's own chances
abbrev pub reportable_of : Tree → ℕ → Set → Bool
reportable_of t r = reportable billion (chance_in t.chances) (events t) r

-- the minimal cuts that are, in the listing's order
abbrev pub report_of : Tree → ℕ → List Set
report_of t r = keep (reportable_of t r) (cut_list (events t) (root_fun t.gates))

-- which these are, each once; and those under edition 1 are among those under edition 2
pub record Reportables (t : Tree) : Type 0 where
  pub cuts : (r : ℕ) (S : Set) → In S (report_of t r) ↔ (MinimalCut (root_fun t.gates) S × (reportable_of t r S ≡ true))
  pub sorted : (r : ℕ) → Sorted (report_of t r)
  pub once : (r : ℕ) → Once (report_of t r)
  pub editions : (S : Set) → reportable_of t 1 S ≡ true → reportable_of t 2 S ≡ true
  pub among : keep (reportable_of t 1) (report_of t 2) ≡ report_of t 1

-- `report` takes the table, and the tree's own chances; in work areas that are long enough, and rooms with enough bytes for any set, it answers 0 to both editions, and each last set is a start for the
-- next call. The calls, in rooms of any sizes, write the bytes of the reportable cuts, and these are the bytes of no other sets.
pub record Reports (t : Tree) (m : Memory) (a : Analysis) : Type 0 where
  pub takes : {r : ℕ} {A : List ℕ} {begin : Bool} {ws room room' F F' W W' : List ℕ} {edition number place count used : ℕ} {last : List ℕ} {finished : Bool}
      → Answered r (events t) m.cuts a.cut_nodes a.cut_root A begin ws room room' F F' W W' edition number place count used last finished → number ≢ 12
  pub takes_own : {r : ℕ} {A : List ℕ} {begin : Bool} {ws room room' F F' W W' : List ℕ} {edition number place count used : ℕ} {last : List ℕ} {finished : Bool}
      → Answered r (events t) m.cuts a.cut_nodes a.cut_root A begin ws room room' F F' W W' edition number place count used last finished → Own t A → number ≢ 7
  pub answers : {r : ℕ} {A : List ℕ} {begin : Bool} {ws room room' F F' W W' : List ℕ} {edition number place count used : ℕ} {last : List ℕ} {finished : Bool}
      → Answered r (events t) m.cuts a.cut_nodes a.cut_root A begin ws room room' F F' W W' edition number place count used last finished → is_edition r ≡ true → Own t A
      → capacity m.cuts ≤ length F → capacity m.cuts ≤ length W → GoodStart (events t) begin ws → longest_cut (events t) ≤ length room → number ≡ 0
  pub goes_on : {r : ℕ} {A : List ℕ} {begin : Bool} {ws room room' F F' W W' : List ℕ} {edition place count used : ℕ} {last : List ℕ} {finished : Bool}
      → Answered r (events t) m.cuts a.cut_nodes a.cut_root A begin ws room room' F F' W W' edition 0 place count used last finished
      → (edition ≡ r) × GoodStart (events t) false last × (finished ≡ false → 0 < count)
  pub whole : {r : ℕ} {A ws bytes : List ℕ} → Joined r (events t) m.cuts a.cut_nodes a.cut_root A true ws bytes → Own t A → bytes ≡ sets_bytes (events t) (report_of t r)
  pub no_other : {r : ℕ} {A ws bytes : List ℕ} → Joined r (events t) m.cuts a.cut_nodes a.cut_root A true ws bytes → Own t A
      → (l : List Set) → ((S : Set) → In S l → Within (events t) S) → bytes ≡ sets_bytes (events t) l → l ≡ report_of t r
  pub reportables : Reportables t
