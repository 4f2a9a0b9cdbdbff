-- What the numbers of a built table mean: the gates' functions, one number for one function, and a table that passes the check of a lent diagram.
-- Assumes nothing.
use mathlib.Core.Path.{◌≡◌, refl, sym, ap, ◌∙◌, subst}
use mathlib.Core.Logic.{◌⊎◌, inl, inr, ◌↔◌}
use mathlib.Core.Bool.{false}
use mathlib.Core.List.{List, [], ◌∷◌}
use Prim.Native.Nat.{ℕ, zero, suc, ◌+◌, ◌-◌, ◌%◌, ◌≤◌, ◌<◌}
use native.Mathlib.Omega.{arith}
use lib.ListN.{length, get_or}
use Rattle.paper.specs.Lists.{In, last_or}
use Rattle.paper.specs.Limits.{limits}
use Rattle.paper.specs.Sets.{Set}
use Rattle.paper.specs.Functions.{Fun}
use Rattle.paper.specs.Trees.{Gate, TreeBelow, const_f, gate_funs, root_fun}
use Rattle.paper.specs.Steps.{step_funs}
use Rattle.paper.specs.Diagrams.{Diagram, leaf, node, eval, Ordered}
use Rattle.algebra.specs.Operations.{subs, gate_diagrams, step_diagrams}
use Rattle.algebra.proofs.Base.{widen}
use Rattle.algebra.proofs.Lists.{in_append, last_is}
use Rattle.algebra.proofs.Plain.{Good, canonical}
use Rattle.algebra.proofs.Gates.{Pairs, Shows, steps_show}
use Rattle.algebra.proofs.Rules.{gates_show}
use Rattle.algebra.proofs.Promises.{root_shows}
use Rattle.tables.specs.Table.{event_of, failed_of, sound_of, den}
use Rattle.tables.specs.Lent.{Above, Node, Kind, Lent}
use Rattle.tables.proofs.Den.{den_0, den_1, den_node}
use Rattle.tables.proofs.Once.{den_inj}
use Rattle.store.specs.Building.{Found}
use Rattle.store.proofs.Denotes.{below_or_not}
use Rattle.build.specs.Finishing.{Whole}
use Rattle.build.proofs.Gates.{diagrams_length}

-- ---- steps are ordered and reduced

good_step : (n : ℕ) (ds : List Diagram) (Fs : List Fun) → Pairs (Shows n) ds Fs → (d : Diagram) → In d ds → Good n 0 d
good_step n [] [] p d h = absurd h
good_step n [] (F ∷ Fs) p d h = absurd p
good_step n (x ∷ ds) [] p d h = absurd p
good_step n (x ∷ ds) (F ∷ Fs) p d (inl e) = subst (Good n 0) (sym e) (p.0.0.ordered, p.0.0.reduced)
good_step n (x ∷ ds) (F ∷ Fs) p d (inr h) = good_step n ds Fs p.1 d h

good_sub : (n m : ℕ) (D E : Diagram) → Good n m D → In E (subs D) → Good n 0 E
good_sub n m (leaf b) E g (inl e) = subst (Good n 0) (sym e) (tt, tt)
good_sub n m (leaf b) E g (inr h) = absurd h
good_sub n m (node e f s) E g (inl q) = subst (Good n 0) (sym q) (widen m 0 n (node e f s) (omega arith) g.0, g.1)
good_sub n m (node e f s) E g (inr h) = go (in_append E (subs f) (subs s) h) (good_sub n (suc e) f E (g.0.2, g.1.1)) (good_sub n (suc e) s E (g.0.3, g.1.2))
  where
    go : In E (subs f) ⊎ In E (subs s) → (In E (subs f) → Good n 0 E) → (In E (subs s) → Good n 0 E) → Good n 0 E
    go (inl h) x y = x h
    go (inr h) x y = y h

-- ---- two lists of the same things, place by place

pairs_at : (n : ℕ) (ds : List Diagram) (Fs : List Fun) (i : ℕ) → Pairs (Shows n) ds Fs → Shows n (get_or ds i (leaf false)) (get_or Fs i (const_f false))
pairs_at n [] [] i p = (record { ordered = tt; reduced = tt; mono = λ T S q t. t }, refl)
pairs_at n [] (F ∷ Fs) i p = absurd p
pairs_at n (d ∷ ds) [] i p = absurd p
pairs_at n (d ∷ ds) (F ∷ Fs) zero p = p.0
pairs_at n (d ∷ ds) (F ∷ Fs) (suc i) p = pairs_at n ds Fs i p.1

module _ (n : ℕ) (t : List Gate) (b : TreeBelow n t) {G A T H X : List ℕ} {root c : ℕ} (w : Whole t G A T H X root c) where
  -- every number denotes an ordered, reduced diagram of the n events
  pub whole_good : (i : ℕ) → i < c + 2 → Good n 0 (den T i)
  whole_good i h = go i h (below_or_not i 2)
    where
      go : (i : ℕ) → i < c + 2 → (i < 2) ⊎ (2 ≤ i) → Good n 0 (den T i)
      go zero h l = subst (Good n 0) (sym (den_0 T)) (tt, tt)
      go (suc zero) h l = subst (Good n 0) (sym (den_1 T)) (tt, tt)
      go (suc (suc i)) h l =
          let p = w.only.each (suc (suc i)) (omega arith) h in
          good_sub n 0 p.whole (den T (suc (suc i))) (good_step n (step_diagrams t) (step_funs t) (steps_show n t b) p.whole p.member) p.part.inside

  -- A GATE'S NUMBER denotes the gate's function
  pub gate_shows : (i : ℕ) → Shows n (den T (get_or G i 0)) (get_or (gate_funs t) i (const_f false))
  gate_shows i = subst (λ d. Shows n d (get_or (gate_funs t) i (const_f false))) (sym (w.gates i).is) (pairs_at n (gate_diagrams t) (gate_funs t) i (gates_show n t b))

  -- ONE NUMBER FOR ONE FUNCTION: two gates have the same number exactly when they agree on every set
  pub gates_agree : (i j : ℕ) → (get_or G i 0 ≡ get_or G j 0) ↔ ((v : Set) → get_or (gate_funs t) i (const_f false) v ≡ get_or (gate_funs t) j (const_f false) v)
  gates_agree i j = (
    (λ e v. sym (ap (λ F. F v) (gate_shows i).1) ∙ ap (λ r. eval (den T r) v) e ∙ ap (λ F. F v) (gate_shows j).1),
    (λ h. den_inj w.store.lower w.store.unique (w.gates i).within (w.gates j).within
        (canonical n (den T (get_or G i 0)) (den T (get_or G j 0)) (gate_shows i).0.ordered (gate_shows j).0.ordered (gate_shows i).0.reduced (gate_shows j).0.reduced
        (λ v. ap (λ F. F v) (gate_shows i).1 ∙ h v ∙ sym (ap (λ F. F v) (gate_shows j).1)))),
  )

  -- THE ROOT'S NUMBER is the last gate's
  pub root_found : Found T c (last_or (leaf false) (gate_diagrams t)) root
  root_found =
      let e : get_or (gate_diagrams t) (length t - 1) (leaf false) ≡ last_or (leaf false) (gate_diagrams t) =
      ap (λ k. get_or (gate_diagrams t) (k - 1) (leaf false)) (sym (diagrams_length t)) ∙ last_is (leaf false) (gate_diagrams t) in
      subst (λ r. Found T c (last_or (leaf false) (gate_diagrams t)) r) (sym w.last) (subst (λ d. Found T c d (get_or G (length t - 1) 0)) e (w.gates (length t - 1)))

  pub root_number : Shows n (den T root) (root_fun t)
  root_number = subst (λ d. Shows n d (root_fun t)) (sym root_found.is) (root_shows n t b)

  -- ---- THE TABLE PASSES the check of a lent diagram

  node_good : (i : ℕ) → 2 ≤ i → i < c + 2 → Good n 0 (node (event_of T i) (den T (failed_of T i)) (den T (sound_of T i)))
  node_good i l h = subst (Good n 0) (den_node w.store.lower i l h) (whole_good i h)

  above : (e k : ℕ) → k < c + 2 → Ordered (suc e) n (den T k) → Above T e k
  above e k h o l = (subst (Ordered (suc e) n) (den_node w.store.lower k l h) o).0

  node_passes : (i : ℕ) → 2 ≤ i → i < c + 2 → Node n T i × Kind false T i
  node_passes i l h =
      let g = node_good i l h in
      let f = w.store.lower.failed (i - 2) (omega arith) in
      let s = w.store.lower.sound (i - 2) (omega arith) in (
        record {
          event = g.0.1;
          failed = omega arith;
          sound = omega arith;
          failed_above = above (event_of T i) (failed_of T i) (omega arith) g.0.2;
          sound_above = above (event_of T i) (sound_of T i) (omega arith) g.0.3;
        },
        λ e. g.1.0 (ap (den T) e),
      )

  pub whole_lent : 1 ≤ n → n ≤ limits.events → length T % 3 ≡ 0 → Lent false n T c root
  whole_lent a d e = record {
    some_event = a;
    few_events = d;
    threes = e;
    short = w.store.small;
    fits = w.store.room;
    nodes = node_passes;
    root_in = root_found.within;
  }
