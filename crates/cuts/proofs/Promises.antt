-- What a cut table comes to, in the rules' own words, where the root's diagram is ordered, reduced and monotone.
-- Assumes nothing.
use mathlib.Core.Path.{◌≡◌, ap, ◌∙◌, subst}
use mathlib.Core.Bool.{Bool, true}
use mathlib.Core.List.{List}
use Prim.Native.Nat.{ℕ, suc, ◌+◌, ◌-◌, ◌*◌, ◌/◌, ◌%◌, ◌<◌, ◌≤◌}
use native.Mathlib.Omega.{arith}
use lib.ListN.{length}
use Rattle.paper.specs.Limits.{limits}
use Rattle.paper.specs.Lists.{In, keep}
use Rattle.paper.specs.Functions.{Fun}
use Rattle.paper.specs.Diagrams.{Diagram, eval, Ordered}
use Rattle.paper.specs.Cuts.{sets_of, cut_list, cut_nodes_needed}
use Rattle.algebra.specs.Operations.{subs, is_node}
use Rattle.algebra.specs.Families.{cuts_d}
use Rattle.algebra.proofs.Base.{lengthen}
use Rattle.algebra.proofs.Lists.{keep_in, map_in}
use Rattle.algebra.proofs.Subs.{part_ordered}
use Rattle.algebra.proofs.Without.{Fit, Tidy, part_tidy, tidy_cuts}
use Rattle.algebra.proofs.Promises.{lists_all, cut_nodes_lem}
use Rattle.tables.specs.Table.{event_of, failed_of, sound_of, den}
use Rattle.tables.specs.Stored.{Lower}
use Rattle.tables.specs.Lent.{Above, Node, Kind, Lent}
use Rattle.tables.proofs.Den.{den_0, den_node}
use Rattle.tables.proofs.Lent.{lent_lower, lent_ordered}
use Rattle.without.specs.Reading.{Readable}
use Rattle.cuts.specs.Cutting.{cut_nodes, CutTable}

-- ---- what the analysis has can be read

pub readable : {T : List ℕ} {c i n : ℕ} → 3 * c ≤ length T → Lower T c → i < c + 2 → n ≤ limits.events → Ordered 0 n (den T i) → Readable T i
readable {T} {c} {i} {n} fits low l m o = record { held = record { count = c; fits = fits; lower = low; within = l }; ordered = lengthen 0 n limits.events (den T i) m o }

pub lent_readable : {cut : Bool} {n : ℕ} {T : List ℕ} {c root i : ℕ} → Lent cut n T c root → i < c + 2 → Readable T i
lent_readable lent l = readable lent.fits (lent_lower lent) l lent.few_events (lent_ordered lent l)

-- ---- the count and the sets

module _ (n : ℕ) (D : Diagram) (F : Fun) (fit : Fit n 0 D) (shows : eval D ≡ F) where
  -- FULL: exactly when the cut nodes needed exceed the capacity
  pub short_needs : {k : ℕ} → k < cut_nodes D → k < cut_nodes_needed n F
  short_needs {k} l = subst (λ x. k < x) (cut_nodes_lem n D F fit shows) l

  module _ {C H X : List ℕ} {d r : ℕ} (t : CutTable D C H X d r) where
    -- COUNT: as many nodes as needed, and they fit
    pub done_needs : d ≡ cut_nodes_needed n F
    done_needs = t.count ∙ cut_nodes_lem n D F fit shows

    pub done_fits : cut_nodes_needed n F ≤ length C / 3
    done_fits = let q = done_needs in let room = t.store.room in omega arith

    -- CUTS: the root denotes the defined list, which is exactly the minimal cuts
    pub done_list : sets_of (den C r) ≡ cut_list n F
    done_list = ap sets_of t.root.is ∙ lists_all n D F fit shows

-- ---- the cut table passes the check of a lent cut diagram

-- a node of rising events keeps the rules of a lent table
top_above : {T : List ℕ} {c : ℕ} → Lower T c → (n e b : ℕ) → b < c + 2 → Ordered (suc e) n (den T b) → Above T e b
top_above {T} low n e b l o two = (subst (Ordered (suc e) n) (den_node low b two l) o).0

module _ {D : Diagram} {C H X : List ℕ} {d r : ℕ} (t : CutTable D C H X d r) (n : ℕ) (ordered : Ordered 0 n D) where
  low : Lower C d
  low = t.store.lower

  -- every stored family is ordered, with no failed branch 0
  tidy : (i : ℕ) → 2 ≤ i → i < d + 2 → Tidy 0 n (den C i)
  tidy i a b =
      let w = t.only.each i a b in
      let (x, k, e) = map_in cuts_d w.whole (keep is_node (subs D)) w.member in
      part_tidy n (cuts_d x) (den C i) (tidy_cuts n 0 x (part_ordered n D x ordered (keep_in is_node x (subs D) k).0))
      (subst (λ y. In (den C i) (subs y)) e w.part.inside)

  rules : (i : ℕ) → 2 ≤ i → i < d + 2 → Node n C i × Kind true C i
  rules i a b =
      let (o, p) = subst (Tidy 0 n) (den_node low i a b) (tidy i a b) in
      let f = low.failed (i - 2) (omega arith) in
      let s = low.sound (i - 2) (omega arith) in (
        record {
          event = o.1;
          failed = omega arith;
          sound = omega arith;
          failed_above = top_above low n (event_of C i) (failed_of C i) (omega arith) o.2;
          sound_above = top_above low n (event_of C i) (sound_of C i) (omega arith) o.3;
        },
        (λ q. p.0 (ap (den C) q ∙ den_0 C)),
      )

  -- PASSES: the answer is no number 12
  pub done_lent : 1 ≤ n → n ≤ limits.events → length C % 3 ≡ 0 → Lent true n C d r
  done_lent a b m = record {
    some_event = a;
    few_events = b;
    threes = m;
    short = t.store.small;
    fits = t.store.room;
    nodes = rules;
    root_in = t.root.within;
  }
