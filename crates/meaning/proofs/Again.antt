-- THE TEXT OF A LAWFUL TREE says the tree again, its events renumbered.
-- Assumes nothing.
use mathlib.Core.Path.{◌≡◌, refl, sym, ap, ◌∙◌, subst}
use Prim.Native.Nat.{ℕ, ◌+◌, ◌-◌, ◌<◌}
use native.Mathlib.Omega.{arith}
use lib.ListN.{get_or, length, length-map}
use Rattle.paper.specs.Limits.{limits, billion}
use Rattle.paper.specs.Lists.{In}
use Rattle.paper.specs.Sets.{Set}
use Rattle.paper.specs.Trees.{Tree, events, root_fun}
use Rattle.paper.specs.Equations.{dict_in, name_in, number_of, chance_in}
use Rattle.paper.specs.Meaning.{fails_in, event_names, place_in, chance_for, tree_said}
use Rattle.paper.specs.Exporting.{event_name, gate_name}
use Rattle.depthfirst.proofs.Counting.{place_low, place_is}
use Rattle.meaning.specs.Said.{under_numbers}
use Rattle.meaning.proofs.Rules.{Rules}
use Rattle.meaning.specs.Exported.{lines_said, root_in, event_in, tree_again, chance_at, SaysAgain}
use Rattle.meaning.proofs.Words.{in_dict, number_low, name_of_number, number_of_name, name_place, at_in}
use Rattle.meaning.proofs.Naming.{event_in_lem, event_is, events_once}
use Rattle.meaning.proofs.Means.{said_means}
use Rattle.meaning.proofs.Chances.{chance_said}
use Rattle.meaning.proofs.Decimals.{event_inj}
use Rattle.meaning.proofs.AgainNames.{again_filled, again_rooted, gate_named, event_named, event_chance_is}
use Rattle.meaning.proofs.AgainRules.{event_kind, no_inputs, again_done}
use Rattle.meaning.proofs.AgainFunction.{again_means}
use Rattle.meaning.proofs.Blind.{Blind, root_blind}
use Rattle.meaning.proofs.SameCuts.{cut_down, cut_up}
use Rattle.meaning.proofs.SameChance.{same_count, same_total}

module _ (t : Tree) (w : Rules limits t) where
  -- event e by its name's number
  abbrev number : ℕ → ℕ
  number e = number_of (event_name e) (dict_in (lines_said t))

  named : (e : ℕ) → e < events t → name_in (lines_said t) (number e) ≡ event_name e
  named e h = name_of_number (event_name e) (lines_said t) (event_named t w e h)

  is_event_lem : (e : ℕ) → e < events t → In (number e) (event_names (lines_said t) (root_in (lines_said t) t))
  is_event_lem e h =
      event_in_lem (again_rooted t w) (number e) (number_low (event_name e) (dict_in (lines_said t)) (in_dict (event_name e) (lines_said t) (event_named t w e h))) (no_inputs t w (number e) e (named e h))

  at_place : (e : ℕ) → e < events t → get_or (event_names (lines_said t) (root_in (lines_said t) t)) (event_in (lines_said t) t e) 0 ≡ number e
  at_place e h = place_is (number e) (event_names (lines_said t) (root_in (lines_said t) t)) (is_event_lem e h)

  place_in_lem : (e : ℕ) → e < events t → event_in (lines_said t) t e < length (event_names (lines_said t) (root_in (lines_said t) t))
  place_in_lem e h = place_low (number e) (event_names (lines_said t) (root_in (lines_said t) t)) (is_event_lem e h)

  how_many : events (tree_again (lines_said t) t) ≡ length (event_names (lines_said t) (root_in (lines_said t) t))
  unfolding tree_said
  how_many = length-map (event_names (lines_said t) (root_in (lines_said t) t)) (chance_for (lines_said t))

  apart : (e f : ℕ) → e < events t → f < events t → event_in (lines_said t) t e ≡ event_in (lines_said t) t f → e ≡ f
  apart e f a b q =
      event_inj e f (omega (arith, w.within.few_events)) (omega (arith, w.within.few_events))
      (sym (named e a) ∙ ap (name_in (lines_said t)) (sym (at_place e a) ∙ ap (λ i. get_or (event_names (lines_said t) (root_in (lines_said t) t)) i 0) q ∙ at_place f b) ∙ named f b)

  onto : (i : ℕ) → i < length (event_names (lines_said t) (root_in (lines_said t) t)) → (e : ℕ) × (e < events t) × (event_in (lines_said t) t e ≡ i)
  onto i h =
      let x = get_or (event_names (lines_said t) (root_in (lines_said t) t)) i 0 in
      let k = at_in 0 (event_names (lines_said t) (root_in (lines_said t) t)) i h in
      let (e, l, q) = event_kind t w x k in
      let n : number e ≡ x = ap (λ v. number_of v (dict_in (lines_said t))) (sym q) ∙ number_of_name (lines_said t) x (event_is (again_rooted t w) x k).0 in
      (e, l, ap (λ z. place_in z (event_names (lines_said t) (root_in (lines_said t) t))) n ∙ name_place (event_names (lines_said t) (root_in (lines_said t) t)) i (events_once (again_rooted t w)) h)

  chances : (e : ℕ) → e < events t → chance_at (tree_again (lines_said t) t) (event_in (lines_said t) t e) ≡ chance_at t e
  chances e h =
      chance_said (lines_said t) (root_in (lines_said t) t) (event_in (lines_said t) t e) (place_in_lem e h)
      ∙ ap (λ v. chance_in v (lines_said t)) (ap (name_in (lines_said t)) (at_place e h) ∙ named e h) ∙ event_chance_is t w e h

  function : (v : Set) → root_fun (tree_again (lines_said t) t).gates v ≡ root_fun t.gates (λ e. v (event_in (lines_said t) t e))
  function v =
      let k = length (dict_in (lines_said t)) + length t.gates in
      let some = w.whole.some_gate in
      said_means (again_filled t w) (again_rooted t w) v k (omega arith)
      ∙ ap (fails_in (lines_said t) k (under_numbers (lines_said t) (root_in (lines_said t) t) v)) (name_of_number (gate_name (length t.gates - 1)) (lines_said t) (gate_named t w (length t.gates - 1) (omega arith)))
      ∙ again_means t w (under_numbers (lines_said t) (root_in (lines_said t) t) v) (λ e. v (event_in (lines_said t) t e)) (λ e h. refl) k (omega arith)

  low : (e : ℕ) → e < events t → event_in (lines_said t) t e < events (tree_again (lines_said t) t)
  low e h = subst (λ n. event_in (lines_said t) t e < n) (sym how_many) (place_in_lem e h)

  all_onto : (i : ℕ) → i < events (tree_again (lines_said t) t) → (e : ℕ) × (e < events t) × (event_in (lines_said t) t e ≡ i)
  all_onto i h = onto i (subst (λ n. i < n) how_many h)

  blind : Blind (events t) (root_fun t.gates)
  blind = root_blind (events t) t.gates w.whole.below

  pub says_again : SaysAgain t (lines_said t)
  says_again = record {
    answer = again_done t w;
    rooted = again_rooted t w;
    low = low;
    apart = apart;
    onto = all_onto;
    count = same_count billion (chance_at t) (chance_at (tree_again (lines_said t) t)) (events t) (event_in (lines_said t) t) apart chances (events (tree_again (lines_said t) t)) low all_onto;
    chances = chances;
    function = function;
    cuts = cut_down (root_fun t.gates) (root_fun (tree_again (lines_said t) t).gates) (events t) (events (tree_again (lines_said t) t)) (event_in (lines_said t) t) low apart all_onto blind function;
    all_cuts = cut_up (root_fun t.gates) (root_fun (tree_again (lines_said t) t).gates) (events t) (events (tree_again (lines_said t) t)) (event_in (lines_said t) t) low apart all_onto blind function;
    exact = same_total billion (chance_at t) (chance_at (tree_again (lines_said t) t)) (events t) (event_in (lines_said t) t) apart chances (events (tree_again (lines_said t) t)) low all_onto (root_fun t.gates)
        (root_fun (tree_again (lines_said t) t).gates) blind function;
  }
