-- `list` and `bracket` on the tables of a done analysis.
-- Assumes nothing.
use mathlib.Core.Path.{◌≡◌, sym, ap, ◌∙◌, subst}
use mathlib.Core.Logic.{◌≢◌, ◌↔◌}
use mathlib.Core.Bool.{Bool, true}
use mathlib.Core.List.{List}
use Prim.Native.Nat.{ℕ, ◌-◌, ◌≤◌, ◌<◌}
use native.Mathlib.Omega.{arith}
use lib.ListN.{length, get_or-map}
use Rattle.paper.specs.Limits.{limits, billion}
use Rattle.paper.specs.Lists.{In, Once}
use Rattle.paper.specs.Sets.{Set, Part, Within}
use Rattle.paper.specs.Functions.{depends_on}
use Rattle.paper.specs.Trees.{Tree, events, root_fun}
use Rattle.paper.specs.Cuts.{MinimalCut, sets_of, cut_list}
use Rattle.paper.specs.Order.{Sorted, from_start}
use Rattle.paper.specs.Listing.{sets_bytes}
use Rattle.paper.specs.Chance.{total, Brackets}
use Rattle.algebra.proofs.Promises.{listed_exactly, listed_sorted, listed_once, list_decides, root_shows}
use Rattle.algebra.proofs.Without.{sets_beyond}
use Rattle.sets.specs.Words.{set_of}
use Rattle.tables.specs.Table.{den}
use Rattle.tables.proofs.Lent.{root_ordered}
use Rattle.records.specs.Judge.{Book}
use Rattle.records.specs.Memory.{no_event}
use Rattle.records.specs.Trees.{Lawful, tree_of}
use Rattle.records.specs.declared.Event.{Event}
use Rattle.trees.proofs.Lawful.{tree_events}
use Rattle.sidebyside.proofs.Telling.{bytes_tell}
use Rattle.listing.specs.Answers.{Answered, no_diagram, beyond, short, done}
use Rattle.listing.specs.Joined.{Joined}
use Rattle.listing.proofs.Join.{join, join_all}
use Rattle.bracket.specs.Bracketed.{chance_in, Enough, Chances, Bracketed}
use Rattle.bracket.proofs.Outcome.{encloses_built}
use Rattle.memory.specs.Memory.{Memory}
use Rattle.memory.specs.Outcome.{Done}
use Rattle.analysis.specs.Completing.{Sound}
use Rattle.memory.specs.Analysis.{Analysis}
use Rattle.promises.proofs.Promises.{root_function}

-- ---- the chances of a tree that was read

-- none is above D
pub own_chances : (b : Book) → Lawful limits b → (e : ℕ) → e < events (tree_of b) → chance_in (tree_of b).chances e ≤ billion
unfolding tree_of
own_chances b l e h = let n = tree_events b in let k : e < length b.events = omega arith in subst (λ x. x ≤ billion) (sym (get_or-map (λ (x : Event). x.chance) b.events e no_event)) (l.chances e k)

module _ {t : Tree} {m m' : Memory} {a : Analysis} (d : Done t m m' a) where
  -- ---- LIST never answers 12
  pub list_takes : {begin : Bool} {ws room room' : List ℕ} {number place count used : ℕ} {last : List ℕ} {finished : Bool}
      → Answered (events t) m'.cuts a.cut_nodes a.cut_root begin ws room room' number place count used last finished → number ≢ 12
  list_takes (no_diagram h r) q = h d.cut_table.lent
  list_takes (beyond l b h r) q = let w = r.is in omega arith
  list_takes (short l w h r) q = let w = r.is in omega arith
  list_takes (done l w h r) q = let w = r.is in omega arith

  -- THE LISTING, in rooms of any sizes, is the bytes of the minimal cuts in order, from the start on
  pub list_is_whole : {begin : Bool} {ws bytes : List ℕ} → Joined (events t) m'.cuts a.cut_nodes a.cut_root begin ws bytes
      → bytes ≡ sets_bytes (events t) (from_start begin (events t) (set_of ws) (cut_list (events t) (root_fun t.gates)))
  list_is_whole {begin} {ws} j = join j ∙ ap (λ l. sets_bytes (events t) (from_start begin (events t) (set_of ws) l)) d.cuts_are

  -- THE BYTES of it are those of no other sets
  pub list_no_other : {ws bytes : List ℕ} → Joined (events t) m'.cuts a.cut_nodes a.cut_root true ws bytes
      → (l : List Set) → ((S : Set) → In S l → Within (events t) S) → bytes ≡ sets_bytes (events t) l → l ≡ sets_of (den m'.cuts a.cut_root)
  list_no_other j l w e = bytes_tell (events t) l (sets_of (den m'.cuts a.cut_root)) w
      (λ S h. sets_beyond 0 (events t) (den m'.cuts a.cut_root) S (root_ordered d.cut_table.lent) h) (sym e ∙ join_all j)

  -- ---- BRACKET never answers 12, and answers 0 where chances and areas are right
  module _ {A L H L' H' : List ℕ} {number place lo hi : ℕ} where
    pub bracket_takes : Bracketed (events t) m'.nodes a.nodes a.root A number place lo hi L H L' H' → number ≢ 12
    bracket_takes (Bracketed.no_diagram h r) q = h d.node_table.lent
    bracket_takes (Bracketed.too_short l h r) q = let w = r.number_is in omega arith
    bracket_takes (Bracketed.no_chance l e h r) q = let w = r.number_is in omega arith
    bracket_takes (Bracketed.done l e p r) q = let w = r.number_is in omega arith

    pub bracket_answers : Bracketed (events t) m'.nodes a.nodes a.root A number place lo hi L H L' H'
        → Enough (events t) m'.nodes A L H → Chances (events t) A → number ≡ 0
    bracket_answers (Bracketed.no_diagram h r) e c = absurd (h d.node_table.lent)
    bracket_answers (Bracketed.too_short l h r) e c = absurd (h e)
    bracket_answers (Bracketed.no_chance l k h r) e c = absurd (h c)
    bracket_answers (Bracketed.done l k p r) e c = r.number_is

  module _ (some : 1 ≤ length t.gates) {A L H L' H' : List ℕ} {number place lo hi : ℕ} where
    -- what it answers encloses the exact chance of the root's function
    pub bracket_encloses : Bracketed (events t) m'.nodes a.nodes a.root A number place lo hi L H L' H' → number ≡ 0
        → Brackets billion (events t - 1) (total billion (chance_in A) (events t) 0 (root_fun t.gates)) (depends_on (events t) (root_fun t.gates)) lo hi
    bracket_encloses b q =
        subst (λ F. Brackets billion (events t - 1) (total billion (chance_in A) (events t) 0 F) (depends_on (events t) F) lo hi) (root_function d some)
        (encloses_built d.node_table.unique b q)

-- ---- the cuts of a sound tree

module _ {t : Tree} {m m' : Memory} {a : Analysis} (d : Done t m m' a) (s : Sound t) where
  -- LISTED exactly if its failing alone fails the root and no smaller part does; each once, in order
  pub cuts_exactly : (S : Set) → In S (sets_of (den m'.cuts a.cut_root)) ↔ MinimalCut (root_fun t.gates) S
  cuts_exactly S = subst (λ l. In S l ↔ MinimalCut (root_fun t.gates) S) (sym d.cuts_are)
      (let r = root_shows (events t) t.gates s.below in listed_exactly (events t) _ (root_fun t.gates) r.0 r.1 S)

  pub cuts_sorted : Sorted (sets_of (den m'.cuts a.cut_root))
  cuts_sorted = subst Sorted (sym d.cuts_are) (let r = root_shows (events t) t.gates s.below in listed_sorted (events t) _ (root_fun t.gates) r.0 r.1)

  pub cuts_once : Once (sets_of (den m'.cuts a.cut_root))
  cuts_once = subst Once (sym d.cuts_are) (let r = root_shows (events t) t.gates s.below in listed_once (events t) _ (root_fun t.gates) r.0 r.1)

  -- THE CUTS DECIDE: a set of failures fails the root exactly if it contains a cut
  pub cuts_decide : (S : Set) → (root_fun t.gates S ≡ true) ↔ ((T : Set) × In T (sets_of (den m'.cuts a.cut_root)) × Part T S)
  cuts_decide S = subst (λ l. (root_fun t.gates S ≡ true) ↔ ((T : Set) × In T l × Part T S)) (sym d.cuts_are)
      (let r = root_shows (events t) t.gates s.below in list_decides (events t) _ (root_fun t.gates) r.0 r.1 S)
