-- What the laws come to, in the rules' own words: F is a function of n events, shown by an ordered reduced monotone diagram.
-- Assumes nothing.
use mathlib.Core.Path.{◌≡◌, refl, sym, ap, ◌∙◌, subst}
use mathlib.Core.Logic.{inl, inr, ◌↔◌}
use mathlib.Core.Bool.{true, false}
use mathlib.Core.List.{List, [], ◌∷◌, map}
use Prim.Native.Nat.{ℕ, suc, ◌≤◌, ◌<◌}
use native.Mathlib.Omega.{arith}
use Rattle.paper.specs.Lists.{In, keep, Once, last_or}
use Rattle.paper.specs.Sets.{Set, Part}
use Rattle.paper.specs.Functions.{Fun, Monotone, depends_on}
use Rattle.paper.specs.Trees.{Gate, const_f, gate_funs, root_fun, TreeBelow}
use Rattle.paper.specs.Diagrams.{Diagram, leaf, eval, Ordered}
use Rattle.paper.specs.Cuts.{MinimalCut, sets_of, cut_list, cut_nodes_needed}
use Rattle.paper.specs.Order.{Sorted}
use Rattle.paper.specs.Chance.{total, low, high, standing, Brackets}
use Rattle.algebra.specs.Operations.{subs, is_node, node_count, gate_diagrams}
use Rattle.algebra.specs.Families.{cuts_d}
use Rattle.algebra.proofs.Without.{Fit, tidy_cuts}
use Rattle.algebra.proofs.Cuts.{cuts_law, cuts_decide}
use Rattle.algebra.proofs.CutCount.{cut_count_law}
use Rattle.algebra.proofs.Order.{sets_sorted}
use Rattle.algebra.proofs.Listing.{listing_law, sorted_once}
use Rattle.algebra.proofs.Bracket.{bracket}
use Rattle.algebra.proofs.Depends.{standing_depends}
use Rattle.algebra.proofs.Gates.{Pairs, Shows}
use Rattle.algebra.proofs.Rules.{gates_show}

pub sorted_all_once : (l : List Set) → Sorted l → Once l
sorted_all_once [] s = tt
sorted_all_once (S ∷ l) s = (sorted_once S l s, sorted_all_once l s.1)

module _ (n : ℕ) (d : Diagram) (F : Fun) (fit : Fit n 0 d) (shows : eval d ≡ F) where
  -- the cut diagram's sets are the defined list
  pub lists_all : sets_of (cuts_d d) ≡ cut_list n F
  lists_all = listing_law n d fit ∙ ap (cut_list n) shows

  -- LISTED: exactly the sets whose failing alone fails the root, and no smaller part does
  pub listed_exactly : (S : Set) → In S (cut_list n F) ↔ MinimalCut F S
  listed_exactly S = (
    (λ h. subst (λ G. MinimalCut G S) shows ((cuts_law n 0 d fit S).0 (subst (In S) (sym lists_all) h))),
    (λ c. subst (In S) lists_all ((cuts_law n 0 d fit S).1 (subst (λ G. MinimalCut G S) (sym shows) c))),
  )

  -- in order, and each once
  pub listed_sorted : Sorted (cut_list n F)
  listed_sorted = subst Sorted lists_all (sets_sorted n 0 (cuts_d d) (tidy_cuts n 0 d fit.ordered).0)

  pub listed_once : Once (cut_list n F)
  listed_once = sorted_all_once (cut_list n F) listed_sorted

  -- THE LIST DECIDES: a set of failures fails the root exactly if it contains a listed cut
  pub list_decides : (S : Set) → (F S ≡ true) ↔ ((T : Set) × In T (cut_list n F) × Part T S)
  list_decides S = (
    (λ h. let (T, i, p) = (cuts_decide n 0 d fit S).0 (ap (λ G. G S) shows ∙ h) in (T, subst (In T) lists_all i, p)),
    (λ w. sym (ap (λ G. G S) shows) ∙ (cuts_decide n 0 d fit S).1 (w.0, subst (In w.0) (sym lists_all) w.1, w.2)),
  )

  -- CUT NODES: the distinct nodes of the cuts of all nodes of the root's diagram
  pub cut_nodes_lem : node_count (map cuts_d (keep is_node (subs d))) ≡ cut_nodes_needed n F
  cut_nodes_lem = cut_count_law n d fit ∙ ap (cut_nodes_needed n) shows

  -- L: the events that the function depends on
  pub events_standing : standing n 0 d ≡ depends_on n F
  events_standing = standing_depends n d fit.ordered fit.reduced ∙ ap (depends_on n) shows

  -- THE BRACKET: low and high enclose the exact sum, each less than L away, where L is the number of events that F depends on
  pub encloses : (D : ℕ) (a : ℕ → ℕ) → 0 < D → (k : ℕ) → n ≡ suc k → ((i : ℕ) → i < n → a i ≤ D)
      → Brackets D k (total D a n 0 F) (depends_on n F) (low D a d) (high D a d)
  encloses D a D0 k e h = rw (← events_standing, ← shows)
      (rw e (bracket D a D0 k (λ i l. h i (omega arith)) d (subst (λ m. Ordered 0 m d) e fit.ordered)))

-- ---- of a tree

pairs_last : {X Y : Type 0} (R : X → Y → Type 0) (x : X) (y : Y) (xs : List X) (ys : List Y) → R x y → Pairs R xs ys → R (last_or x xs) (last_or y ys)
pairs_last R x y [] [] r p = r
pairs_last R x y [] (b ∷ ys) r p = absurd p
pairs_last R x y (a ∷ xs) [] r p = absurd p
pairs_last R x y (a ∷ xs) (b ∷ ys) r p = pairs_last R a b xs ys p.0 p.1

-- the last gate's diagram shows the root's function
pub root_shows : (n : ℕ) (t : List Gate) → TreeBelow n t → Shows n (last_or (leaf false) (gate_diagrams t)) (root_fun t)
unfolding root_fun
root_shows n t b = pairs_last (Shows n) (leaf false) (const_f false) (gate_diagrams t) (gate_funs t) (record { ordered = tt; reduced = tt; mono = λ T S p q. q }, refl) (gates_show n t b)

-- MONOTONE: more failed events mend no gate
pub gates_monotone : (n : ℕ) (ds : List Diagram) (Fs : List Fun) → Pairs (Shows n) ds Fs → (F : Fun) → In F Fs → Monotone F
gates_monotone n [] [] p F h = absurd h
gates_monotone n [] (G ∷ Fs) p F h = absurd p
gates_monotone n (d ∷ ds) [] p F h = absurd p
gates_monotone n (d ∷ ds) (G ∷ Fs) p F (inl e) = subst Monotone (p.0.1 ∙ sym e) p.0.0.mono
gates_monotone n (d ∷ ds) (G ∷ Fs) p F (inr h) = gates_monotone n ds Fs p.1 F h

pub tree_monotone : (n : ℕ) (t : List Gate) → TreeBelow n t → (F : Fun) → In F (gate_funs t) → Monotone F
tree_monotone n t b F h = gates_monotone n (gate_diagrams t) (gate_funs t) (gates_show n t b) F h
