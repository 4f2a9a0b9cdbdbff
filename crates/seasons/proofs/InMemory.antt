-- A tree in memory with its forced events as constants can be built, and is the tree under the settings.
-- Assumes nothing.
use mathlib.Core.Path.{◌≡◌, refl, sym, ap, ◌∙◌, subst}
use mathlib.Core.List.{List, [], ◌∷◌, map}
use Prim.Native.Nat.{ℕ, zero, suc, ◌+◌, ◌≤◌, ◌<◌}
use native.Mathlib.Omega.{arith}
use lib.ListN.{length, get_or, take}
use Rattle.paper.specs.Limits.{limits}
use Rattle.paper.specs.Trees as paper
use Rattle.paper.specs.Trees.{events, TreeBelow}
use Rattle.paper.specs.Flat.{gates_from, failed_from}
use Rattle.paper.specs.Store.{Settings}
use Rattle.paper.specs.Forcing.{force_gate, force_tree}
use Rattle.records.specs.Judge.{Book}
use Rattle.records.specs.Memory.{memory}
use Rattle.records.specs.Trees.{tree_of, tree_in}
use Rattle.records.specs.declared.Event.{Event}
use Rattle.records.specs.declared.Tree.{Tree}
use Rattle.trees.proofs.Lawful.{tree_events}
use Rattle.build.specs.Memory.{start_of, Plan, Arrays}
use Rattle.memory.specs.Memory.{Memory}
use Rattle.memory.specs.Analysis.{Analysis}
use Rattle.analysis.specs.Completing.{Sound}
use Rattle.analysis.specs.Filling.{WasRead, Buildable, Filled}
use Rattle.analysis.proofs.Reading.{read_buildable}
use Rattle.settings.proofs.Chances.{chances_long}
use Rattle.forcing.specs.Codes.{force_code, force_in}
use Rattle.forcing.proofs.Codes.{gates_codes, codes_long, code_kept}
use Rattle.forcing.proofs.Trees.{gates_long, forced_below}
use Rattle.seasons.proofs.Unseen.{filling_unseen}

-- ---- the tree that it is

-- t with its forced events as constants, and its own chances
abbrev own_chances : Settings → paper.Tree → paper.Tree
own_chances s t = record { chances = t.chances; gates = map (force_gate s) t.gates }

tree_in_forced : (s : Settings) (t : Tree) → tree_in (force_in s t) ≡ own_chances s (tree_in t)
unfolding tree_in force_in
tree_in_forced s t = ap (λ g. record { chances = map (λ (e : Event). e.chance) (take t.event_count t.events); gates = g })
    (gates_codes s t.kinds t.leasts 0 (take t.gate_count t.sizes) t.inputs)

pub count_forced : (s : Settings) (t : Tree) → (force_in s t).gate_count ≡ t.gate_count
unfolding force_in
count_forced s t = refl

pub filled_forced : (s : Settings) (t : Tree) {m m' : Memory} {a : Analysis} → Filled (tree_in (force_in s t)) m m' a → Filled (force_tree s (tree_in t)) m m' a
filled_forced s t {m} {m'} {a} f =
    filling_unseen (tree_in t).chances (force_tree s (tree_in t)).chances (map (force_gate s) (tree_in t).gates) (sym (chances_long s (tree_in t).chances))
    (subst (λ x. Filled x m m' a) (tree_in_forced s t) f)

-- ---- it can be built

module _ (s : Settings) where
  earlier_codes : (bound : ℕ) (xs : List ℕ) (i : ℕ) → 0 < bound → (get_or xs i 0 < failed_from → get_or xs i 0 < bound)
      → get_or (map (force_code s) xs) i 0 < failed_from → get_or (map (force_code s) xs) i 0 < bound
  earlier_codes bound [] i p h l = p
  earlier_codes bound (x ∷ xs) zero p h l = let q = code_kept s x l in subst (λ c. c < bound) (sym q) (h (subst (λ c. c < failed_from) q l))
  earlier_codes bound (x ∷ xs) (suc i) p h l = earlier_codes bound xs i p h l

  plan_codes : {kinds leasts sizes inputs : List ℕ} → Plan kinds leasts sizes inputs → Plan kinds leasts sizes (map (force_code s) inputs)
  plan_codes {kinds} {leasts} {sizes} {inputs} p = record {
    has_kinds = p.has_kinds;
    has_leasts = p.has_leasts;
    has_inputs = let e = codes_long s inputs in let q = p.has_inputs in omega arith;
    some = p.some;
    few = p.few;
    least = p.least;
    earlier = λ g j h m. earlier_codes (gates_from + g) inputs (start_of sizes g + j) (omega arith) (p.earlier g j h m);
  }

  arrays_forced : (t : Tree) → Arrays t → Arrays (force_in s t)
  unfolding force_in
  arrays_forced t a = record {
    few_gates = a.few_gates;
    all_kinds = a.all_kinds;
    all_leasts = a.all_leasts;
    all_sizes = a.all_sizes;
    all_inputs = codes_long s t.inputs ∙ a.all_inputs;
    plan = plan_codes a.plan;
  }

  sound_own : (t : paper.Tree) → Sound t → Sound (own_chances s t)
  sound_own t h = record {
    some_event = h.some_event;
    few_events = h.few_events;
    some_gate = let e = gates_long s t.gates in omega (arith, h.some_gate);
    below = forced_below s (events t) t.gates h.below;
  }

  pub sound_forced : (t : paper.Tree) → Sound t → Sound (force_tree s t)
  sound_forced t h =
      let n = chances_long s t.chances in
      record {
        some_event = omega (arith, h.some_event);
        few_events = omega (arith, h.few_events);
        some_gate = let e = gates_long s t.gates in omega (arith, h.some_gate);
        below = subst (λ k. TreeBelow k (map (force_gate s) t.gates)) (sym n) (forced_below s (events t) t.gates h.below);
      }

  buildable_forced : (t : Tree) → Buildable t → Buildable (force_in s t)
  buildable_forced t b = record {
    arrays = arrays_forced t b.arrays;
    sound = subst Sound (sym (tree_in_forced s t)) (sound_own (tree_in t) b.sound);
    count = ap (λ x. length x.gates) (tree_in_forced s t) ∙ gates_long s (tree_in t).gates ∙ b.count ∙ sym (count_forced s t);
  }

pub made_buildable : (s : Settings) (t : Tree) {u : Tree} → u ≡ force_in s t → WasRead t → Buildable u
made_buildable s t e w = subst Buildable (sym e) (buildable_forced s t (read_buildable w))

-- ---- the events of a tree that was read

book_events : (b : Book) → (memory b).event_count ≡ length b.events
unfolding memory
book_events b = refl

module _ {t : Tree} (w : WasRead t) where
  pub read_events : t.event_count ≡ events (tree_of w.book)
  read_events = ap (λ (x : Tree). x.event_count) w.is ∙ book_events w.book ∙ sym (tree_events w.book)

  pub read_few : t.event_count ≤ limits.events
  read_few = omega (arith, w.lawful.few_events, read_events, tree_events w.book)
